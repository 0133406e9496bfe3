use Rattle.std.proofs.Common.{◌*◌, ◌≤◌}
use Rattle.unit_works.specs.Claims.{AreOrGone}
use Rattle.unit_works.specs.Drained.{HasGone}
use Rattle.unit_works.proofs.draining.go_rounds.Given as goal

-- works were done in the rounds so far, and each ended at most 32 runs and executions; no claim went unless a system fell
abbrev pub invariant-loop-round : goal.invariant-loop-round
invariant-loop-round g l =
    HasGone g.V.Volumes.disk l.fn.landscape l.fn.wires l.landscape l.wires l.finished
    × (l.finished ≤ 32 * l._round)
    × AreOrGone l.fn.landscape.world l.landscape.world l.fn.landscape.world.claims
