use Rattle.std.proofs.Common.{◌≡◌, ◌≤◌, ◌<◌, ◌+◌, ◌^◌, ℕ, false, slice_get}
use Rattle.multi_queue.specs.Bits.{IsTreeBut, bit}
use Rattle.multi_queue.specs.Counted.{is_ready}
use Rattle.multi_queue.proofs.board.Board.tree_of.Given as goal

-- the leaves of the units so far are right, and no later leaf is true
abbrev pub invariant-loop-place : goal.invariant-loop-place
invariant-loop-place l = record {
  tree : IsTreeBut 0 l.height l.nodes;
  done : (p : ℕ) → p < l.place → bit l.nodes (2 ^ l.height + p) ≡ is_ready (slice_get l.units p) (slice_get l.self.heads p);
  rest : (p : ℕ) → l.place ≤ p → bit l.nodes (2 ^ l.height + p) ≡ false;
}
