use Rattle.std.proofs.Common.{◌≡◌, ◌≤◌, ◌++◌, length, drop}
use Rattle.ale_base.specs.Hexadecimal.{digits_of}
use Rattle.ale_base.proofs.hexadecimal.put_digits.Given as goal

abbrev pub invariant-loop-at : goal.invariant-loop-at
invariant-loop-at l = (l.at ≤ length l.into) × (digits_of l.at l.number ++ drop l.at l.into ≡ digits_of (length l.into) l.fn.number)

abbrev pub decreases-loop-at : goal.decreases-loop-at
decreases-loop-at l = l.at
