-- Counts of faults, one a volume.
use Rattle.std.specs.Prelude.{◌≡◌, ◌≢◌, ℕ, ◌≤◌}
use Rattle.ale_base.specs.Faults.{Rose}

-- A call on volume n counts faults of it where it failed, and none otherwise. It counts none of another volume.
pub record CountsFault (failed : Type 0) (before after : ℕ → ℕ) (n : ℕ) : Type 0 where
  pub rose : failed → Rose (before n) (after n)
  pub quiet : ¬ failed → after n ≡ before n
  pub never_falls : before n ≤ after n
  pub others : (m : ℕ) → m ≢ n → after m ≡ before m
