use Rattle.std.proofs.Common.{◌≡◌, length, take}
use Rattle.unit_core.specs.Filters.{executed}
use Rattle.unit_landscape.proofs.counted.executed_in.Given as goal

abbrev pub invariant-loop-next : goal.invariant-loop-next
invariant-loop-next l = l.many ≡ length (executed (take l.next-index l.log))
