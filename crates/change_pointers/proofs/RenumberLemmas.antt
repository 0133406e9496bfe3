-- The first element from a place on that passes.
use Rattle.std.specs.Prelude.{position}
use Rattle.std.specs.Option.{option_map}
use Rattle.std.proofs.Common.{◌≡◌, ℕ, suc, ◌+◌, Bool, true, false, Option, Some, None, List, ◌∷◌, map, drop, refl, ap, sym, ◌∙◌, arith}
use Rattle.segment_defs.proofs.NameLemmas.{position-here, position-behind}

module _ {A B : Type 0} (view : A → B) (test : B → Bool) (place : ℕ) (xs : List A) (x : A) (here : drop place xs ≡ x ∷ drop (place + 1) xs) where
  -- it is the one at the place
  pub found-here : test (view x) ≡ true → option_map (λ k. place + k) (position test (map view (drop place xs))) ≡ Some place
  found-here passes =
      ap (λ (left : List A). option_map (λ k. place + k) (position test (map view left))) here
      ∙ ap (option_map (λ k. place + k)) (position-here test (view x) (map view (drop (place + 1) xs)) passes)
      ∙ ap Some (omega arith)

  further : (o : Option ℕ) → option_map (λ k. place + k) (option_map suc o) ≡ option_map (λ k. place + 1 + k) o
  further None = refl
  further (Some k) = ap Some (omega arith)

  -- it is one behind the place
  pub found-behind : test (view x) ≡ false
      → option_map (λ k. place + 1 + k) (position test (map view (drop (place + 1) xs)))
      ≡ option_map (λ k. place + k) (position test (map view (drop place xs)))
  found-behind fails =
      sym (ap (λ (left : List A). option_map (λ k. place + k) (position test (map view left))) here
      ∙ ap (option_map (λ k. place + k)) (position-behind test (view x) (map view (drop (place + 1) xs)) fails)
      ∙ further (position test (map view (drop (place + 1) xs))))
