use Rattle.std.proofs.Common.{◌≡◌}
use Rattle.unit_works.specs.steps.Rounds.{NothingTo}
use Rattle.drain_desk.proofs.claiming.claim_first.Given as goal

-- nothing was found at the systems so far
abbrev pub invariant-loop-number : goal.invariant-loop-number
invariant-loop-number g l = (l.landscape ≡ l.fn.landscape) × NothingTo l.fn.landscape.world l.number
