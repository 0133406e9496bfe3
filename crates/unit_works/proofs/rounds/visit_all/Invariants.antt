use Rattle.std.proofs.Common.{◌*◌}
use Rattle.unit_works.specs.Claims.{AreOrGone}
use Rattle.unit_works.specs.Drained.{Found}
use Rattle.unit_works.specs.steps.Rounds.{NothingTo}
use Rattle.unit_works.proofs.rounds.visit_all.Given as goal

-- what was found at the systems so far; no claim went unless a system fell
abbrev pub invariant-loop-number : goal.invariant-loop-number
invariant-loop-number g l =
    Found g.V.Volumes.disk l.fn.landscape l.fn.wires l.landscape l.wires (2 * l.number) (NothingTo l.fn.landscape.world l.number) l.found
    × AreOrGone l.fn.landscape.world l.landscape.world l.fn.landscape.world.claims
