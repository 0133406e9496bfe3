use Rattle.std.proofs.Common.{◌≡◌, ℕ, false, length}
use Rattle.multi_queue.specs.Bits.{bit}
use Rattle.multi_queue.proofs.growing.falses.Given as goal

-- no bit so far is true
pub record AllFalse (count : ℕ) (nodes : Rattle.std.proofs.Common.List Rattle.std.proofs.Common.Bool) : Type 0 where
  pub size : length nodes ≡ count
  pub bits : (i : ℕ) → bit nodes i ≡ false

abbrev pub invariant-loop-number : goal.invariant-loop-number
invariant-loop-number l = AllFalse l.number l.nodes
