use Rattle.std.proofs.Common.{◌≡◌, take, true}
use Rattle.ale_base.specs.Tid.{TidOf}
use Rattle.unit_core.specs.Queues.{is_listed}
use Rattle.unit_works.specs.Claims.{AreOrGone}
use Rattle.unit_works.specs.Rounds.{HasVisited}
use Rattle.unit_works.proofs.confirming.confirm_each.Given as goal

-- the ids so far were visited, and no claim went unless a system fell
abbrev pub invariant-loop-tid : goal.invariant-loop-tid
invariant-loop-tid g l =
    HasVisited g.V.Volumes.disk l.fn.landscape l.fn.wires l.landscape l.wires (λ (other : TidOf). is_listed other (take l.tid-index l.tids) ≡ true)
    × AreOrGone l.fn.landscape.world l.landscape.world l.fn.landscape.world.claims
