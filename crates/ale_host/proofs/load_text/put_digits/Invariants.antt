use Rattle.std.proofs.Common.{◌≡◌, ◌≤◌, ◌++◌, length, drop}
use Rattle.idoc_record.specs.Digits.{decimal_digits}
use Rattle.ale_host.proofs.load_text.put_digits.Given as goal

abbrev pub invariant-loop-at : goal.invariant-loop-at
invariant-loop-at l = (l.at ≤ length l.into) × (decimal_digits l.at l.number ++ drop l.at l.into ≡ decimal_digits (length l.into) l.fn.number)

abbrev pub decreases-loop-at : goal.decreases-loop-at
decreases-loop-at l = l.at
