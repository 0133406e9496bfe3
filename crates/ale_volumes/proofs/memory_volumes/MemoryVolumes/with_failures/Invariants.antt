use Rattle.std.proofs.Common.{◌≡◌, ℕ, ◌<◌, [], length, get_or}
use Rattle.ale_volumes.proofs.memory_volumes.MemoryVolumes.with_failures.Given as goal

abbrev pub invariant-loop-i : goal.invariant-loop-i
invariant-loop-i l = record {
  volumes : length l.held ≡ 16;
  copied : (n : ℕ) → n < l.i → get_or l.held n [] ≡ get_or l.contents n [];
}
