use Rattle.multi_queue.specs.Counted.{IsKept, Leaves, KeepsLanes, IsLastDead, left_at}
use Rattle.std.proofs.Common.{None}
use Rattle.multi_queue.proofs.counting.Counting.part_all.Given as goal

abbrev pub invariant-loop-queue : goal.invariant-loop-queue
invariant-loop-queue g l = record {
  kept : IsKept None l.self;
  last : IsLastDead l.place l.self.units;
  others : Leaves l.place l.initial.self.units l.self.units;
  lanes : KeepsLanes l.initial.self.lanes l.self.lanes;
}

abbrev pub decreases-loop-queue : goal.decreases-loop-queue
decreases-loop-queue g l = left_at l.place l.self.units
