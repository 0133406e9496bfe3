use Rattle.std.proofs.Common.{◌≡◌, ℕ, ◌<◌, [], length, get_or}
use Rattle.worked_cases.proofs.starts.copied.Given as goal

abbrev pub invariant-loop-n : goal.invariant-loop-n
invariant-loop-n l = record {
  volumes : length l.copy ≡ 16;
  copied : (n : ℕ) → n < l.n → get_or l.copy n [] ≡ get_or l.contents n [];
}
