use Rattle.std.proofs.Common.{◌≡◌, ◌≤◌, ◌<◌, ◌/◌, ◌^◌, length, ℕ}
use Rattle.multi_queue.specs.Bits.{IsTreeBut, bit}
use Rattle.multi_queue.proofs.bits.settle.Given as goal

abbrev pub invariant-loop-at : goal.invariant-loop-at
invariant-loop-at l = record {
  tree : IsTreeBut (l.at / 2) l.height l.nodes;
  within : l.at < length l.nodes;
  below : l.at ≤ l.from;
  leaves : (i : ℕ) → 2 ^ l.height ≤ i → bit l.nodes i ≡ bit l.initial.nodes i;
}

abbrev pub decreases-loop-at : goal.decreases-loop-at
decreases-loop-at l = l.at
