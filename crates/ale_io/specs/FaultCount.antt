-- What a call does to the count of faults of what it reads or writes.
use Rattle.std.specs.Prelude.{◌≡◌, ℕ, ◌+◌, ◌-◌, ◌^◌, ◌≤◌, min}
use Rattle.ale_base.specs.Faults.{Rose}

-- where the call failed the count rose, where it did what it was asked for the count is as before, and it never falls
pub record IsCounted (Failed Done : Type 0) (before after : ℕ) : Type 0 where
  pub failed : Failed → Rose before after
  pub quiet : Done → after ≡ before
  pub counted : before ≤ after

-- the count is one higher where the call failed, and as before where it did not. It stops at the greatest number of 64
-- bits
pub record CountsOne (Failed : Type 0) (before after : ℕ) : Type 0 where
  pub one : Failed → after ≡ min (before + 1) (2 ^ 64 - 1)
  pub none : (Failed → ⊥) → after ≡ before
