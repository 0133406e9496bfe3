-- Keys that differ: one more that none of them is, and the one at a place among those before it.
use Rattle.std.specs.Prelude.{nat_eq, slice_get}
use Rattle.std.specs.List.{AllByRecursion, IsDistinct, list_any}
use Rattle.std.specs.Option.{option_map}
use Rattle.std.specs.Cmp.Lexicographic.{bytes_decides}
use Rattle.std.proofs.Common.{◌≡◌, ℕ, zero, suc, ◌+◌, ◌<◌, ◌&&◌, ◌||◌, not, Bool, true, false, Some, List, [], ◌∷◌, ◌++◌, length, map, take, get_or, refl, sym}
use Rattle.std.proofs.Common.{ap, ◌∙◌, inl, inr, append_assoc, arith}
use Rattle.std.proofs.lemmas.Bool.{cases_Bool, false≢true}
use Rattle.std.proofs.lemmas.Bool.Decides.{nat_tests}
use Rattle.std.proofs.lemmas.List.{map_push, take_more, take-map}
use Rattle.std.proofs.lemmas.Option.{slice_get-get_or, slice_get-map}
use Rattle.ale_base.specs.Text.{is_text}
use Rattle.ale_base.proofs.ListLemmas.{AllByRecursion-at, AllByRecursion-parts, IsDistinct-append}
use Rattle.dist_model.specs.Triple.{same_triple}

-- a test that tells two apart tells them apart the other way round
abbrev pub Symmetric : {K : Type 0} → (K → K → Bool) → Type 0
Symmetric {K} same = (a b : K) → same a b ≡ false → same b a ≡ false

pub is_text-symmetric : Symmetric is_text
is_text-symmetric a b differs = elim (cases_Bool (is_text b a)) [
  | inl same ↦ absurd (false≢true (sym differs ∙ (bytes_decides a b).1 (sym ((bytes_decides b a).0 same))))
  | inr other ↦ other
]

pub nat_eq-symmetric : Symmetric nat_eq
nat_eq-symmetric a b differs = grind (arith, nat_tests)

or_false_parts : (a b : Bool) → (a || b) ≡ false → (a ≡ false) × (b ≡ false)
or_false_parts false b none = (refl, none)
or_false_parts true b none = absurd (false≢true (sym none))

apart_from : {K : Type 0} (same : K → K → Bool) → Symmetric same → (k : K) (ks : List K) → list_any (same k) ks ≡ false →
    AllByRecursion (λ other. AllByRecursion (λ y. same other y ≡ false) (k ∷ [])) ks
apart_from same symmetric k [] none = tt
apart_from same symmetric k (other ∷ ks) none =
    let parts = or_false_parts (same k other) (list_any (same k) ks) none in
    ((symmetric k other parts.0, tt), apart_from same symmetric k ks parts.1)

-- keys that differ, and one more that none of them is
pub IsDistinct-push : {K : Type 0} (same : K → K → Bool) → Symmetric same → (ks : List K) (k : K) → IsDistinct same ks → list_any (same k) ks ≡ false →
    IsDistinct same (ks ++ k ∷ [])
unfolding IsDistinct
IsDistinct-push same symmetric ks k apart new = IsDistinct-append same ks (k ∷ []) apart (apart_from same symmetric k ks new) (tt, tt)

and_false : (a b c d : Bool) → (a ≡ false → c ≡ false) → (b ≡ false → d ≡ false) → (a && b) ≡ false → (c && d) ≡ false
and_false true true c d first second h = absurd (cc)
and_false true false c d first second h = rw (second refl) (right c)
  where
    right : (c : Bool) → (c && false) ≡ false
    right true = refl
    right false = refl
and_false false b c d first second h = rw (first refl) refl

pub same_triple-symmetric : Symmetric same_triple
same_triple-symmetric a b differs =
    and_false (nat_eq a.0 b.0) (nat_eq a.1 b.1 && nat_eq a.2 b.2) (nat_eq b.0 a.0) (nat_eq b.1 a.1 && nat_eq b.2 a.2) (nat_eq-symmetric a.0 b.0)
    (and_false (nat_eq a.1 b.1) (nat_eq a.2 b.2) (nat_eq b.1 a.1) (nat_eq b.2 a.2) (nat_eq-symmetric a.1 b.1) (nat_eq-symmetric a.2 b.2)) differs

module _ {K : Type 0} (same : K → K → Bool) (symmetric : Symmetric same) where
  -- the key at a place is none of those before it
  new_at : (ks : List K) (i : ℕ) (k : K) → IsDistinct same ks → slice_get ks i ≡ Some k → list_any (same k) (take i ks) ≡ false
  unfolding IsDistinct
  new_at [] i k apart here = absurd (cc)
  new_at (first ∷ ks) zero k apart here = refl
  new_at (first ∷ ks) (suc i) k apart here =
      rw (symmetric first k (AllByRecursion-at (λ other. same first other ≡ false) ks i k apart.0 here)) (new_at ks i k apart.1 here)

  -- nor any of those before the list
  pub new_behind : (before ks : List K) (i : ℕ) (k : K) → IsDistinct same (before ++ ks) → slice_get ks i ≡ Some k →
      list_any (same k) (before ++ take i ks) ≡ false
  unfolding IsDistinct
  new_behind [] ks i k apart here = new_at ks i k apart here
  new_behind (first ∷ before) ks i k apart here =
      let all = (AllByRecursion-parts (λ other. same first other ≡ false) before ks apart.0).1 in
      rw (symmetric first k (AllByRecursion-at (λ other. same first other ≡ false) ks i k all here)) (new_behind before ks i k apart.1 here)

-- the keys of one more item of a list
pub keys_more : {A K : Type 0} (key : A → K) (xs : List A) (i : ℕ) (x : A) → x ≡ get_or xs i x → i < length xs → map key (take (i + 1) xs) ≡ map key (take i xs)
    ++ key x ∷ []
keys_more key xs i x is within = ap (map key) (take_more xs i x within ∙ ap (λ y. take i xs ++ y ∷ []) (sym is)) ∙ map_push key (take i xs) x

-- a table of the keys so far, behind others, to which the key of the next item is added
pub added_next : {A K : Type 0} (same : K → K → Bool) → Symmetric same →
    (key : A → K) (xs : List A) (i : ℕ) (x : A) (k : K) (before old new : List K) (is_new : Bool)
    → IsDistinct same (before ++ map key xs) → x ≡ get_or xs i x → k ≡ key x → i < length xs → old ≡ before ++ map key (take i xs)
    → is_new ≡ not (list_any (same k) old) → (is_new ≡ true → new ≡ old ++ k ∷ []) → new ≡ before ++ map key (take (i + 1) xs)
added_next same symmetric key xs i x k before old new is_new apart is keyed within so_far tells adds =
    let here : slice_get (map key xs) i ≡ Some k =
    slice_get-map key xs i ∙ ap (λ o. option_map key o) (slice_get-get_or xs i x within) ∙ ap (λ y. Some (key y)) (sym is) ∙ ap Some (sym keyed) in
    let fresh : list_any (same k) old ≡ false =
    ap (list_any (same k)) (so_far ∙ ap (λ ks. before ++ ks) (sym (take-map key i xs))) ∙ new_behind same symmetric before (map key xs) i k apart here in
    let more : map key (take (i + 1) xs) ≡ map key (take i xs) ++ k ∷ [] = keys_more key xs i x is within
    ∙ ap (λ y. map key (take i xs) ++ y ∷ []) (sym keyed) in
    adds (tells ∙ ap not fresh) ∙ ap (λ ks. ks ++ k ∷ []) so_far ∙ append_assoc before (map key (take i xs)) (k ∷ []) ∙ ap (λ ks. before ++ ks) (sym more)
