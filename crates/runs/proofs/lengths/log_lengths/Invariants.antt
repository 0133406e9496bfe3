use Rattle.std.proofs.Common.{◌≡◌, map, take, length}
use Rattle.trfc_protocol.specs.declared.world.SystemState.{SystemState}
use Rattle.runs.proofs.lengths.log_lengths.Given as goal

abbrev pub invariant-loop-state : goal.invariant-loop-state
invariant-loop-state l = l.lengths.items ≡ map (λ (state : SystemState). length state.log) (take l.state-index l.systems)
