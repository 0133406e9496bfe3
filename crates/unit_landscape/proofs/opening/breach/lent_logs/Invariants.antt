use Rattle.std.proofs.Common.{◌≡◌, map, take}
use Rattle.unit_core.specs.Systems.{lent}
use Rattle.trfc_protocol.specs.declared.world.SystemState.{SystemState}
use Rattle.unit_landscape.proofs.opening.breach.lent_logs.Given as goal

-- the logs so far
abbrev pub invariant-loop-state : goal.invariant-loop-state
invariant-loop-state l = lent l.logs.items ≡ map (λ (state : SystemState). state.log) (take l.state-index l.systems)
