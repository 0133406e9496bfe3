use Rattle.std.proofs.Common.{◌≤◌, ◌+◌, ◌<◌, length, None}
use Rattle.multi_queue.specs.Counted.{IsKept, HeadsAll, Leaves, cost_at, left_at, IsClaimedAt, KeepsLanes}
use Rattle.multi_queue.proofs.counting.Counting.leave_all.Given as goal

abbrev pub invariant-loop-queue : goal.invariant-loop-queue
invariant-loop-queue g l = record {
  kept : IsKept None l.self;
  claimed : IsClaimedAt l.place l.self.units;
  lanes : KeepsLanes l.initial.self.lanes l.self.lanes;
  within : l.place < length l.self.units;
  heads_all : HeadsAll l.place l.self.units;
  others : Leaves l.place l.initial.self.units l.self.units;
  cost : l.steps + cost_at l.place l.self.units ≤ l.initial.steps + cost_at l.place l.initial.self.units;
}

abbrev pub decreases-loop-queue : goal.decreases-loop-queue
decreases-loop-queue g l = left_at l.place l.self.units
