use Rattle.landscape.specs.steps.Opening.{AreOpened}
use Rattle.landscape.proofs.landscape.opening.read_all.Given as goal

abbrev pub invariant-loop-number : goal.invariant-loop-number
invariant-loop-number g l = AreOpened g.V.Volumes.disk l.systems l.text l.fn.moment l.fn.vols l.number l.opening
