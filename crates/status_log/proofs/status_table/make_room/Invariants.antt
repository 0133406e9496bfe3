use Rattle.std.proofs.Common.{◌+◌, ◌-◌, length}
use Rattle.status_log.specs.Statuses.{Keeps}
use Rattle.status_log.proofs.status_table.make_room.Given as goal

abbrev pub invariant-loop-alloc : goal.invariant-loop-alloc
invariant-loop-alloc l = Keeps l.initial.table l.table

abbrev pub decreases-loop-alloc : goal.decreases-loop-alloc
decreases-loop-alloc l = l.place + 1 - length l.table
