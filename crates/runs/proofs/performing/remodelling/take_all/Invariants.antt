use Rattle.std.specs.Arc.{arc_value}
use Rattle.landscape.specs.Crashes.{GoesSoundly}
use Rattle.runs.proofs.ReplacingLemmas.{Along}
use Rattle.runs.proofs.performing.remodelling.take_all.Given as goal

abbrev pub invariant-loop-number : goal.invariant-loop-number
invariant-loop-number g l = record {
  along : Along g.V.Volumes.disk (arc_value l.model) l.text l.initial.landscape l.number l.count l.landscape;
  sound : GoesSoundly g.V.Volumes.disk l.initial.landscape l.landscape;
}
