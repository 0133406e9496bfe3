-- Objects as a set keeps them: by the texts of their kinds and keys.
use Rattle.std.specs.declared.cmp.Ordering.{Ordering}
use Rattle.std.specs.declared.cmp.Ordering.TheVariants.{Less, Equal, Greater}
use Rattle.std.specs.Ordering.{nat_cmp, match_ordering, ordering_then}
use Rattle.std.specs.Cmp.Lexicographic.{slice_cmp}
use Rattle.std.specs.BTreeSet.{insert_key}
use Rattle.std.proofs.Common.{◌≡◌, ℕ, List, [], ◌∷◌, map, refl, ap}
use Rattle.change_pointers.specs.declared.pointer.ObjectKey.{ObjectKey}
use Rattle.change_pointers.specs.Pointers.{with_object}

module _ {K : Type 0} (f : K → List ℕ) where
  -- the object of two names
  abbrev pub named : K × K → ObjectKey
  named names = record { kind = f names.0; key = f names.1 }

  -- how a set compares names
  abbrev pub names_cmp : K × K → K × K → Ordering
  names_cmp a b = ordering_then (slice_cmp nat_cmp (f a.0) (f b.0)) (slice_cmp nat_cmp (f a.1) (f b.1))

  -- an object that is added
  pub insert-named : (names : List (K × K)) (new : K × K) → map named (insert_key names_cmp names new) ≡ with_object (map named names) (named new)
  insert-named [] new = refl
  insert-named (other ∷ names) new = step (names_cmp new other) (insert-named names new)
    where
      step : (order : Ordering) → map named (insert_key names_cmp names new) ≡ with_object (map named names) (named new)
          → map named (match_ordering order (new ∷ other ∷ names) (other ∷ names) (other ∷ insert_key names_cmp names new))
          ≡ match_ordering order (named new ∷ named other ∷ map named names) (named other ∷ map named names)
          (named other ∷ with_object (map named names) (named new))
      step Less rest = refl
      step Equal rest = refl
      step Greater rest = ap (λ (objects : List ObjectKey). named other ∷ objects) rest
