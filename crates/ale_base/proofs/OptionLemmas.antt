-- What is known of an option's value.
use Rattle.std.specs.Option.{option_map}
use Rattle.std.proofs.Common.{◌≡◌, ◌⊎◌, Option, Some, None, inl, inr, refl}
use Rattle.std.proofs.lemmas.Option.{same_Some}

-- the value that a function was applied to
pub option_map-Some : {A B : Type 0} (f : A → B) (found : Option A) (y : B) → option_map f found ≡ Some y → (x : A) × (found ≡ Some x) × (f x ≡ y)
option_map-Some f None y is = cc
option_map-Some f (Some x) y is = (x, refl, same_Some (f x) y is)

-- there is a value or none
pub none_or_some : {A : Type 0} (found : Option A) → (found ≡ None) ⊎ ((x : A) × (found ≡ Some x))
none_or_some None = inl refl
none_or_some (Some x) = inr (x, refl)
