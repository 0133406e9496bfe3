-- Names of queues that are named once.
use Rattle.std.specs.Prelude.{fold, nat_eq, not, ◌&&◌, ◌||◌}
use Rattle.std.specs.Cmp.Lexicographic.{pointwise}
use Rattle.std.proofs.Common.{◌≡◌, inl, inr, ℕ, ◌+◌, ◌≤◌, Bool, true, false, List, [], ◌∷◌, ◌++◌, length, refl, ap, ◌∙◌, arith, length-append}
use Rattle.std.proofs.lemmas.Bool.{and_parts, cases_Bool, cond-true, cond-false, or_from, or_parts}
use Rattle.std.proofs.lemmas.Cmp.{nat_list_eq_equiv}
use Rattle.std.proofs.lemmas.List.Folds.{list_any-append}
use Rattle.unit_core.specs.Queues.{are_different, has_name}
use Rattle.outbound_build.specs.QueueNames.{is_blank, named_once, with_name}
use Rattle.outbound_build.specs.Units.{AreQueues}

both : (a b : Bool) → a ≡ true → b ≡ true → (a && b) ≡ true
both a b one two = ap (λ x. x && b) one ∙ two

not_false : (b : Bool) → not b ≡ true → b ≡ false
not_false true is = cc
not_false false is = refl

-- names that differ still do with one more that is none of them
pub different-push : (names : List (List ℕ)) (name : List ℕ) → are_different names ≡ true → has_name name names ≡ false
    → are_different (names ++ name ∷ []) ≡ true
different-push [] name different new = refl
different-push (first ∷ names) name different new =
    let parts = and_parts (not (has_name first names)) (are_different names) different in
    let apart = or_parts (pointwise nat_eq first name) (has_name name names) new in
    let back : pointwise nat_eq name first ≡ false = nat_list_eq_equiv.symm name first ∙ apart.0 in
    let none : has_name first (names ++ name ∷ []) ≡ false
    = list_any-append (λ other. pointwise nat_eq other first) names (name ∷ [])
    ∙ or_from (has_name first names) (pointwise nat_eq name first || false) (not_false (has_name first names) parts.0) (ap (λ b. b || false) back) in
    both (not (has_name first (names ++ name ∷ []))) (are_different (names ++ name ∷ [])) (ap not none) (different-push names name parts.1 apart.1)

with-different : (names : List (List ℕ)) (name : List ℕ) → are_different names ≡ true → are_different (with_name names name) ≡ true
with-different names name different = elim (cases_Bool (is_blank name || has_name name names)) [
  | inl known ↦ ap are_different (cond-true (is_blank name || has_name name names) names (names ++ name ∷ []) known) ∙ different
  | inr new ↦
      ap are_different (cond-false (is_blank name || has_name name names) names (names ++ name ∷ []) new)
      ∙ different-push names name different (or_parts (is_blank name) (has_name name names) new).1
]

with-length : (names : List (List ℕ)) (name : List ℕ) → length (with_name names name) ≤ length names + 1
with-length names name = elim (cases_Bool (is_blank name || has_name name names)) [
  | inl known ↦
      let same : length (with_name names name) ≡ length names
      = ap (λ (ns : List (List ℕ)). length ns) (cond-true (is_blank name || has_name name names) names (names ++ name ∷ []) known) in
      omega arith
  | inr new ↦
      let more : length (with_name names name) ≡ length (names ++ name ∷ [])
      = ap (λ (ns : List (List ℕ)). length ns) (cond-false (is_blank name || has_name name names) names (names ++ name ∷ []) new) in
      omega (arith, more, length-append names (name ∷ []))
]

all-different : (names more : List (List ℕ)) → are_different names ≡ true → are_different (fold with_name names more) ≡ true
all-different names [] different = different
all-different names (name ∷ more) different = all-different (with_name names name) more (with-different names name different)

all-length : (names more : List (List ℕ)) → length (fold with_name names more) ≤ length names + length more
all-length names [] = omega arith
all-length names (name ∷ more) = omega (arith, all-length (with_name names name) more, with-length names name)

-- what few rules name are queues of a direction
pub once-AreQueues : (names : List (List ℕ)) → length names ≤ 8 → AreQueues (named_once names)
once-AreQueues names few = record { few = omega (arith, all-length [] names, few); different = all-different [] names refl }
