use Rattle.std.proofs.Common.{◌≡◌, map}
use Rattle.trfc_protocol.specs.Start.{first_state}
use Rattle.trfc_protocol.proofs.start.first_states.Given as goal

abbrev pub invariant-loop-log : goal.invariant-loop-log
invariant-loop-log l = l.systems ≡ map first_state l.yielded
