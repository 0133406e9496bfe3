-- Tables of what was added to them.
use Rattle.std.specs.Prelude.{is_some}
use Rattle.std.specs.List.{list_any}
use Rattle.std.proofs.Common.{◌≡◌, ℕ, suc, ◌||◌, ◌&&◌, not, nat_eq, Bool, true, false, List, [], ◌∷◌, ◌++◌, position, Option, Some, None, refl, sym, ap, ◌∙◌}
use Rattle.std.proofs.Common.{inl, inr, arith}
use Rattle.std.specs.Option.{option_map}
use Rattle.std.proofs.lemmas.Bool.{cases_Bool, and_parts}
use Rattle.std.proofs.lemmas.Bool.Decides.{nat_tests}
use Rattle.std.proofs.lemmas.List.Folds.{list_any-append}
use Rattle.ale_base.proofs.MemberLemmas.{list_any-Contains, list_any-found}
use Rattle.dist_model.specs.Triple.{same_triple}
use Rattle.segment_defs.proofs.NameLemmas.{position-behind, position-here}

some_map : (found : Option ℕ) → is_some (option_map suc found) ≡ is_some found
some_map None = refl
some_map (Some place) = refl

-- an element is found where one passes
pub position-any : {A : Type 0} (test : A → Bool) (xs : List A) → is_some (position test xs) ≡ list_any test xs
position-any test [] = refl
position-any test (x ∷ xs) = elim (cases_Bool (test x)) [
  | inl passes ↦ ap is_some (position-here test x xs passes) ∙ sym (ap (λ b. b || list_any test xs) passes)
  | inr fails ↦ ap is_some (position-behind test x xs fails) ∙ some_map (position test xs) ∙ position-any test xs ∙ sym (ap (λ b. b || list_any test xs) fails)
]

-- a test that tells equal ones alone
abbrev pub Decides : {K : Type 0} → (K → K → Bool) → Type 0
Decides {K} same = (a b : K) → same a b ≡ true → a ≡ b

pub nat_eq-decides : Decides nat_eq
nat_eq-decides a b is = grind (arith, nat_tests)

pub same_triple-decides : Decides same_triple
same_triple-decides a b is =
    let first = and_parts (nat_eq a.0 b.0) (nat_eq a.1 b.1 && nat_eq a.2 b.2) is in
    let second = and_parts (nat_eq a.1 b.1) (nat_eq a.2 b.2) first.1 in
    let x = nat_eq-decides a.0 b.0 first.0 in
    let y = nat_eq-decides a.1 b.1 second.0 in
    let z = nat_eq-decides a.2 b.2 second.1 in
    joined a.0 a.1 a.2 b.0 b.1 b.2 x y z
  where
    joined : (a b c d e f : ℕ) → a ≡ d → b ≡ e → c ≡ f → ◌≡◌ {A = ℕ × ℕ × ℕ} (a, b, c) (d, e, f)
    joined a b c d e f x y z = cc

or_false : (a : Bool) → (a || false) ≡ a
or_false true = refl
or_false false = refl

or_true : (a b : Bool) → (b ≡ true → a ≡ true) → (a || b) ≡ a
or_true true b covered = refl
or_true false true covered = sym (covered refl)
or_true false false covered = refl

-- a table finds what was found before, and what was added
pub any-added : {K : Type 0} (same : K → K → Bool) → Decides same → (table out keys : List K) (key : K) (new : Bool)
    → ((k : K) → list_any (same k) table ≡ list_any (same k) keys) → new ≡ not (list_any (same key) table)
    → (new ≡ true → out ≡ table ++ key ∷ []) → (new ≡ false → out ≡ table) → (k : K) → list_any (same k) out ≡ list_any (same k) (keys ++ key ∷ [])
any-added same decides table out keys key true so_far told added known k =
    ap (list_any (same k)) (added refl) ∙ list_any-append (same k) table (key ∷ []) ∙ ap (λ b. b || list_any (same k) (key ∷ [])) (so_far k)
    ∙ sym (list_any-append (same k) keys (key ∷ []))
any-added same decides table out keys key false so_far told added known k =
    ap (list_any (same k)) (known refl) ∙ so_far k
    ∙ sym (list_any-append (same k) keys (key ∷ []) ∙ or_true (list_any (same k) keys) (list_any (same k) (key ∷ [])) covered)
  where
    there : (b : Bool) → false ≡ not b → b ≡ true
    there true e = refl
    there false e = absurd (cc)

    covered : list_any (same k) (key ∷ []) ≡ true → list_any (same k) keys ≡ true
    covered is =
        let (x, in_table, same_x) = list_any-found (same key) table (there (list_any (same key) table) told) in
        let same_key : same k key ≡ true = sym (or_false (same k key)) ∙ is in
        let k_is = decides k key same_key in
        sym (so_far k) ∙ list_any-Contains (same k) table x in_table (ap (λ q. same q x) k_is ∙ same_x)
