-- What is in a list, by what is seen of its elements.
use Rattle.std.proofs.Common.{◌≡◌, ◌||◌, Bool, List, [], ◌∷◌, map, refl, ap}
use Rattle.std.specs.List.{list_any}

pub list_any-map : {A B : Type 0} (view : A → B) (test : B → Bool) (xs : List A) → list_any (λ x. test (view x)) xs ≡ list_any test (map view xs)
list_any-map view test [] = refl
list_any-map view test (x ∷ xs) = ap (λ b. test (view x) || b) (list_any-map view test xs)
