-- Calls of which chosen ones fail.
use Rattle.std.specs.Prelude.{◌≡◌, ◌⊎◌, ℕ, ◌+◌, ◌-◌, ◌^◌, min, List, slice_index, slice_set, Contains}
use Rattle.ale_volumes.specs.declared.device_calls.DeviceCalls.{DeviceCalls}

-- after so many calls the next one is to fail: it was chosen, or there is no number left for it
abbrev pub NextFails : List ℕ → ℕ → Type 0
NextFails failing made = Contains failing (made + 1) ⊎ (made ≡ 2 ^ 64 - 1)

-- One call on volume n was counted: exactly one fault of the volume where it failed, and none otherwise. A count stops at
-- the greatest number of 64 bits.
pub record CountsCall (old new : DeviceCalls) (n : ℕ) (failed : Type 0) : Type 0 where
  pub made : new.made ≡ min (old.made + 1) (2 ^ 64 - 1)
  pub failing : new.failing ≡ old.failing
  pub one_fault : failed → new.faults ≡ slice_set old.faults n (min (slice_index old.faults n + 1) (2 ^ 64 - 1))
  pub no_fault : ¬ failed → new.faults ≡ old.faults
