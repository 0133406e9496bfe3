-- Tests that decide what they test, one by one and in lists.
use Rattle.std.specs.Bool.{Decides, beq}
use Rattle.std.specs.Cmp.{booleans_Decides, unsigned_Decides}
use Rattle.std.specs.Cmp.Lexicographic.{pointwise, bytes_decides, pointwise_decides}
use Rattle.std.specs.List.{list_any, starts_with}
use Rattle.std.specs.Option.{option_eq, option_map}
use Rattle.std.proofs.Common.{◌≡◌, ◌↔◌, ◌==◌, ℕ, suc, nat_eq, Bool, true, not, ◌&&◌, Option, Some, None, List, [], ◌∷◌, length, drop, map, refl, sym, ap, ◌∙◌}
use Rattle.std.proofs.Common.{inl, inr}
use Rattle.std.proofs.lemmas.Bool.{and_parts, and_from, cases_Bool, false≢true}
use Rattle.std.proofs.lemmas.Slice.Eq.{starts_is}
use Rattle.ale_base.specs.Prefix.{IsPrefix}
use Rattle.ale_base.specs.Text.{is_text}
use Rattle.ale_base.proofs.MemberLemmas.{list_any-Contains, list_any-found}
use Rattle.segment_defs.proofs.NameLemmas.{position-behind, position-here}
use Rattle.model_growth.specs.Kept.{AllKept}
use Rattle.model_growth.specs.Growth.{first_lost}

-- a test passes exactly where this holds
pub record IsDecided (test : Bool) (P : Type 0) : Type 0 where
  pub is : test ≡ true → P
  pub back : P → test ≡ true

-- two tests together
pub both_decided : {a b : Bool} {P Q : Type 0} → IsDecided a P → IsDecided b Q → IsDecided (a && b) (P × Q)
both_decided {a} {b} first second = record {
  is = λ passes. let parts = and_parts a b passes in (first.is parts.0, second.is parts.1);
  back = λ holds. and_from a b (first.back holds.0) (second.back holds.1);
}

-- what is decided may be said otherwise
pub decided_as : {test : Bool} {P Q : Type 0} → (P → Q) → (Q → P) → IsDecided test P → IsDecided test Q
decided_as to from decided = record { is = λ passes. to (decided.is passes); back = λ holds. decided.back (from holds) }

pub number_decided : (a b : ℕ) → IsDecided (a == b) (a ≡ b)
number_decided a b = let d = unsigned_Decides a b in record { is = d.0; back = d.1 }

pub bool_decided : (a b : Bool) → IsDecided (beq a b) (a ≡ b)
bool_decided a b = let d = booleans_Decides a b in record { is = d.0; back = d.1 }

pub text_decided : (a b : List ℕ) → IsDecided (is_text a b) (a ≡ b)
text_decided a b = let d = bytes_decides a b in record { is = d.0; back = d.1 }

pub option_decided : (a b : Option ℕ) → IsDecided (option_eq nat_eq a b) (a ≡ b)
option_decided None None = record { is = λ _. refl; back = λ _. refl }
option_decided None (Some y) = record { is = λ never. absurd (false≢true never); back = λ never. cc }
option_decided (Some x) None = record { is = λ never. absurd (false≢true never); back = λ never. cc }
option_decided (Some x) (Some y) =
    decided_as (λ same. ap Some same) (λ same. cc) (number_decided x y)

-- lists of which each pair is decided
module _ {A : Type 0} (test : A → A → Bool) (decided : (a b : A) → IsDecided (test a b) (a ≡ b)) where
  decides : (a b : A) → Decides (test a b) (a ≡ b)
  decides a b = ((decided a b).is, (decided a b).back)

  pub list_decided : (xs ys : List A) → IsDecided (pointwise test xs ys) (xs ≡ ys)
  list_decided xs ys = let d = pointwise_decides decides xs ys in record { is = d.0; back = d.1 }

  pub prefix_decided : (front whole : List A) → IsDecided (starts_with test whole front) (IsPrefix front whole)
  prefix_decided front whole =
      let d = starts_is decides whole front (starts_with test whole front) refl in record {
        is = λ passes. (drop (length front) whole, sym (d.0 passes));
        back = λ begins. d.1 begins.0 (sym begins.1);
      }

-- lists of which each pair is decided by what is seen of the one and of the other
module _ {A B : Type 0} (test : A → A → Bool) (f g : A → B) (decided : (a b : A) → IsDecided (test a b) (f a ≡ g b)) where
  pub map_decided : (xs ys : List A) → IsDecided (pointwise test xs ys) (map f xs ≡ map g ys)
  map_decided [] [] = record { is = λ _. refl; back = λ _. refl }
  map_decided [] (y ∷ ys) = record { is = λ never. absurd (false≢true never); back = λ never. cc }
  map_decided (x ∷ xs) [] = record { is = λ never. absurd (false≢true never); back = λ never. cc }
  map_decided (x ∷ xs) (y ∷ ys) =
      decided_as (λ same. λ i. same.0 i ∷ same.1 i) (λ same. (cc, cc)) (both_decided (decided x y) (map_decided xs ys))

-- no entry is lost exactly where each is kept
module _ {A : Type 0} (keeps : A → A → Bool) (Kept : A → A → Type 0) (decided : (a b : A) → IsDecided (keeps a b) (Kept a b)) (others : List A) where
  no_place : (place : Option ℕ) → option_map suc place ≡ None → place ≡ None
  no_place None none = refl
  no_place (Some place) none = cc

  pub none_lost : (entries : List A) → (first_lost keeps entries others ≡ None) ↔ AllKept Kept entries others
  none_lost [] = (λ none. tt, λ all. refl)
  none_lost (entry ∷ entries) =
      let lost = λ (e : A). not (list_any (keeps e) others) in
      let behind = none_lost entries in
      elim (cases_Bool (list_any (keeps entry) others)) [
        | inl stands ↦
            let found = list_any-found (keeps entry) others stands in
            let next : first_lost keeps (entry ∷ entries) others ≡ option_map suc (first_lost keeps entries others) =
            position-behind lost entry entries (ap not stands) in (
              λ none. (
                (found.0, found.1, (decided entry found.0).is found.2),
                behind.0 (no_place (first_lost keeps entries others) (sym next ∙ none)),
              ),
              λ all. next ∙ ap (option_map suc) (behind.1 all.1),
            )
        | inr none_stands ↦
            let here : first_lost keeps (entry ∷ entries) others ≡ Some 0 = position-here lost entry entries (ap not none_stands) in (
              λ none. absurd (nothing 0 (sym here ∙ none)),
              λ all. absurd (false≢true (sym none_stands
                  ∙ list_any-Contains (keeps entry) others all.0.0 all.0.1 ((decided entry all.0.0).back all.0.2))),
            )
      ]
    where
      nothing : (place : ℕ) → Some place ≡ None → ⊥
      nothing place never = cc
