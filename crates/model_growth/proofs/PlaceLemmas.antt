-- What is found at a place of a list is found in it.
use Rattle.std.specs.Prelude.{◌||◌}
use Rattle.std.specs.List.{list_any}
use Rattle.std.specs.Option.{option_map_or}
use Rattle.std.proofs.Common.{◌≡◌, ℕ, zero, suc, Bool, true, false, List, [], ◌∷◌, slice_get, ap, refl}
use Rattle.std.proofs.lemmas.Bool.{false≢true}

or-right : (a b : Bool) → b ≡ true → (a || b) ≡ true
or-right true b is = refl
or-right false b is = is

-- where the one at a place passes, one passes
pub any-at : {A : Type 0} (test : A → Bool) (xs : List A) (place : ℕ) → option_map_or test (slice_get xs place) false ≡ true → list_any test xs ≡ true
any-at test [] place is = absurd (false≢true is)
any-at test (x ∷ xs) zero is = ap (λ b. b || list_any test xs) is
any-at test (x ∷ xs) (suc place) is = or-right (test x) (list_any test xs) (any-at test xs place is)
