-- How one item of a list changes, and no other one.
use Rattle.std.specs.Prelude.{◌≡◌, ◌≢◌, ℕ, List, length, slice_get, Some}

-- the list is as long as before, every item but the one at this place is as before, and that one changed so
pub record ChangedAt {A : Type 0} (Change : A → A → Type 0) (place : ℕ) (before after : List A) : Type 0 where
  pub long : length after ≡ length before
  pub others : (other : ℕ) → other ≢ place → slice_get after other ≡ slice_get before other
  pub its : (now : A) → slice_get after place ≡ Some now → (old : A) × (slice_get before place ≡ Some old) × Change old now
