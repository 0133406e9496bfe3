use Rattle.unit_works.specs.Claims.{AreOrGone}
use Rattle.unit_works.specs.Rounds.{HasVisited, IsTo}
use Rattle.unit_works.proofs.draining.confirm_all.Given as goal

-- the units of the systems so far were visited, and no claim went unless a system fell
abbrev pub invariant-loop-number : goal.invariant-loop-number
invariant-loop-number g l =
    HasVisited g.V.Volumes.disk l.fn.landscape l.fn.wires l.landscape l.wires (IsTo l.number)
    × AreOrGone l.fn.landscape.world l.landscape.world l.fn.landscape.world.claims
