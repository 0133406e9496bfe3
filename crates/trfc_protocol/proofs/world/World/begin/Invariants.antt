use Rattle.std.proofs.Common.{◌≡◌, map}
use Rattle.std.specs.List.{range_with_len}
use Rattle.trfc_protocol.specs.Start.{genesis_log}
use Rattle.trfc_protocol.proofs.world.World.begin.Given as goal

abbrev pub invariant-loop-number : goal.invariant-loop-number
invariant-loop-number g l = l.logs ≡ map (genesis_log l.text) (range_with_len 1 l.number)
