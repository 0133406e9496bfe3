-- Two lists in pairs.
use Rattle.std.specs.Cmp.Lexicographic.{pointwise}
use Rattle.std.specs.List.{list_all, zip}
use Rattle.std.proofs.Common.{◌≡◌, Bool, ◌&&◌, List, [], ◌∷◌, length, refl, ap}

-- lists of one length pass pair by pair where all pairs pass
pub pointwise_zip : {A : Type 0} (test : A → A → Bool) (xs ys : List A) → length xs ≡ length ys
    → list_all (λ pair. test pair.0 pair.1) (zip xs ys) ≡ pointwise test xs ys
pointwise_zip test [] [] same = refl
pointwise_zip test [] (y ∷ ys) same = cc
pointwise_zip test (x ∷ xs) [] same = cc
pointwise_zip test (x ∷ xs) (y ∷ ys) same = ap (λ rest. test x y && rest) (pointwise_zip test xs ys cc)
