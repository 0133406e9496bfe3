use Rattle.std.proofs.Common.{◌≡◌, length, take}
use Rattle.unit_core.specs.Filters.{received}
use Rattle.unit_landscape.proofs.counted.received_in.Given as goal

abbrev pub invariant-loop-next : goal.invariant-loop-next
invariant-loop-next l = l.many ≡ length (received (take l.next-index l.log))
