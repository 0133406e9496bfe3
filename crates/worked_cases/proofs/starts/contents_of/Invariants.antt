use Rattle.std.proofs.Common.{◌≡◌, ℕ, ◌<◌, [], length, get_or}
use Rattle.ale_volumes.specs.MemoryLemmas.{volume_now}
use Rattle.worked_cases.proofs.starts.contents_of.Given as goal

abbrev pub invariant-loop-n : goal.invariant-loop-n
invariant-loop-n l = record {
  volumes : length l.contents ≡ 16;
  copied : (n : ℕ) → n < l.n → get_or l.contents n [] ≡ (volume_now l.fn.vols n).contents;
}
