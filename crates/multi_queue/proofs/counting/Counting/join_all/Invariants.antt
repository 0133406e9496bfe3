use Rattle.multi_queue.specs.Counted.{IsKept, Leaves, KeepsLanes, IsLastDead, IsIn}
use Rattle.std.proofs.Common.{None, take}
use Rattle.multi_queue.proofs.counting.Counting.join_all.Given as goal

abbrev pub invariant-loop-queue : goal.invariant-loop-queue
invariant-loop-queue g l = record {
  kept : IsKept None l.self;
  last : IsLastDead l.place l.self.units;
  others : Leaves l.place l.initial.self.units l.self.units;
  lanes : KeepsLanes l.initial.self.lanes l.self.lanes;
  is_in : IsIn l.place (take l.queue-index l.queues) l.self.units;
}
