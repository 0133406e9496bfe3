-- Lists: what holds of each element, keys that stand once, and elements by their places.
use Rattle.std.specs.Prelude.{not, slice_get, slice_set, slice_index_or, Contains}
use Rattle.std.specs.Bool.{MatchBool}
use Rattle.std.specs.List.{AllByRecursion, AllWithin, HoldsAt, IsDistinct, list_all, flat_map}
use Rattle.std.proofs.Common.{◌≡◌, ◌↔◌, ◌⊎◌, inl, inr, ℕ, zero, suc, ◌+◌, ◌<◌, ◌≤◌, ◌-◌, Bool, true, false, Some, List, [], ◌∷◌, ◌++◌, length, take, drop, map, refl, sym}
use Rattle.std.proofs.Common.{◌∙◌, subst, arith, ◌≢◌, ap}
use Rattle.std.proofs.lemmas.Bool.{false≢true, and_parts, not-true}
use Rattle.std.proofs.lemmas.Option.{same_Some, slice_get_within, get_or_from_slice_get}
use Rattle.std.proofs.lemmas.List.{take-append-drop, take_more, drop_more}
use Rattle.std.proofs.lemmas.List.Concat.{flat_map-cons}
use Rattle.std.proofs.lemmas.List.Elements.{All-from_recursion, recursion_from_All, All-from_all_within}
use Rattle.ale_base.proofs.MemberLemmas.{Contains-cons, Contains-nil}

-- what holds of each element holds of the one at a place
pub AllByRecursion-at : {A : Type 0} (P : A → Type 0) (xs : List A) (i : ℕ) (x : A) → AllByRecursion P xs → slice_get xs i ≡ Some x → P x
AllByRecursion-at P [] i x all here = cc
AllByRecursion-at P (y ∷ ys) zero x all here = subst P (same_Some y x here) all.0
AllByRecursion-at P (y ∷ ys) (suc i) x all here = AllByRecursion-at P ys i x all.1 here

-- what holds of the element at each place holds of each element
pub AllByRecursion-from_places : {A : Type 0} (P : A → Type 0) (xs : List A) → ((i : ℕ) (x : A) → slice_get xs i ≡ Some x → P x) → AllByRecursion P xs
AllByRecursion-from_places P [] at = tt
AllByRecursion-from_places P (x ∷ xs) at = (at 0 x refl, AllByRecursion-from_places P xs (λ i y here. at (suc i) y here))

-- what always holds, holds of each element
pub AllByRecursion-of : {A : Type 0} (P : A → Type 0) → ((x : A) → P x) → (xs : List A) → AllByRecursion P xs
AllByRecursion-of P always [] = tt
AllByRecursion-of P always (x ∷ xs) = (always x, AllByRecursion-of P always xs)

-- what follows of each element follows of all
pub AllByRecursion-weaker : {A : Type 0} (P Q : A → Type 0) (xs : List A) → ((x : A) → P x → Q x) → AllByRecursion P xs → AllByRecursion Q xs
AllByRecursion-weaker P Q [] follows all = tt
AllByRecursion-weaker P Q (x ∷ xs) follows all = (follows x all.0, AllByRecursion-weaker P Q xs follows all.1)

-- what holds of each element one by one holds of each together
pub AllByRecursion-both : {A : Type 0} (P Q : A → Type 0) (xs : List A) → AllByRecursion P xs → AllByRecursion Q xs → AllByRecursion (λ x. P x × Q x) xs
AllByRecursion-both P Q [] first second = tt
AllByRecursion-both P Q (x ∷ xs) first second = ((first.0, second.0), AllByRecursion-both P Q xs first.1 second.1)

-- what holds of each element of two lists holds of each of both together, and the other way round
pub AllByRecursion-append : {A : Type 0} (P : A → Type 0) (xs ys : List A) → AllByRecursion P xs → AllByRecursion P ys → AllByRecursion P (xs ++ ys)
AllByRecursion-append P [] ys front back = back
AllByRecursion-append P (x ∷ xs) ys front back = (front.0, AllByRecursion-append P xs ys front.1 back)

pub AllByRecursion-parts : {A : Type 0} (P : A → Type 0) (xs ys : List A) → AllByRecursion P (xs ++ ys) → AllByRecursion P xs × AllByRecursion P ys
AllByRecursion-parts P [] ys all = (tt, all)
AllByRecursion-parts P (x ∷ xs) ys all = let parts = AllByRecursion-parts P xs ys all.1 in ((all.0, parts.0), parts.1)

-- what holds of the image of each element holds of each image, and the other way round
pub AllByRecursion-map : {A B : Type 0} (P : A → Type 0) (f : B → A) (ys : List B) → AllByRecursion (λ y. P (f y)) ys → AllByRecursion P (map f ys)
AllByRecursion-map P f [] all = tt
AllByRecursion-map P f (y ∷ ys) all = (all.0, AllByRecursion-map P f ys all.1)

pub AllByRecursion-from_map : {A B : Type 0} (P : A → Type 0) (f : B → A) (ys : List B) → AllByRecursion P (map f ys) → AllByRecursion (λ y. P (f y)) ys
AllByRecursion-from_map P f [] all = tt
AllByRecursion-from_map P f (y ∷ ys) all = (all.0, AllByRecursion-from_map P f ys all.1)

-- what holds of each element of the list of each holds of all of them together
pub AllByRecursion-flat_map : {A B : Type 0} (P : A → Type 0) (f : B → List A) (ys : List B) →
    AllByRecursion (λ y. AllByRecursion P (f y)) ys ↔ AllByRecursion P (flat_map f ys)
AllByRecursion-flat_map P f [] = (λ all. tt, λ all. tt)
AllByRecursion-flat_map P f (y ∷ ys) =
    let rest = AllByRecursion-flat_map P f ys in (
      λ all. rw flat_map-cons (AllByRecursion-append P (f y) (flat_map f ys) all.0 (rest.0 all.1)),
      λ all. let parts = AllByRecursion-parts P (f y) (flat_map f ys) (rw flat_map-cons at all) in (parts.0, rest.1 parts.1),
    )

-- a test of each element says what it says of all of them
pub all-decided : {A : Type 0} (P : A → Type 0) (xs : List A) (r : Bool) →
    MatchBool r (AllWithin P xs 0 (length xs)) ((k : ℕ) × (k < length xs) × HoldsAt (λ x. P x → ⊥) xs k) → (r ≡ true) ↔ AllByRecursion P xs
all-decided P xs true cases = (λ is. recursion_from_All P xs (All-from_all_within P xs cases), λ all. refl)
all-decided P [] false cases = absurd (omega (arith, cases.1))
all-decided P (x ∷ xs) false cases = (
  λ never. absurd (false≢true never),
  λ all. absurd (cases.2 x (All-from_recursion P (x ∷ xs) all cases.0 x cases.1)),
)

module _ {A K : Type 0} (same : K → K → Bool) (key : A → K) where
  differs-all : (k : K) (xs : List A) → list_all (λ x. not (same k (key x))) xs ≡ true → AllByRecursion (λ other. same k other ≡ false) (map key xs)
  differs-all k [] all = tt
  differs-all k (x ∷ xs) all =
      let parts = and_parts (not (same k (key x))) _ all in (not-true (same k (key x)) parts.0, differs-all k xs parts.1)

  all-differs : (k : K) (xs : List A) → AllByRecursion (λ other. same k other ≡ false) (map key xs) → list_all (λ x. not (same k (key x))) xs ≡ true
  all-differs k [] all = refl
  all-differs k (x ∷ xs) all = rw (all.0, all-differs k xs all.1)

  -- a test of each element says that a key differs from all of theirs
  pub differs-decided : (k : K) (xs : List A) (r : Bool) → r ≡ list_all (λ x. not (same k (key x))) xs →
      (r ≡ true) ↔ AllByRecursion (λ other. same k other ≡ false) (map key xs)
  differs-decided k xs r is = rw is (differs-all k xs, all-differs k xs)

-- the key differs from each of the list
abbrev pub IsNew : {K : Type 0} → (K → K → Bool) → List K → K → Type 0
IsNew same ks k = AllByRecursion (λ other. same k other ≡ false) ks

-- keys stand once in two lists together where they do in each, and those of the first are not in the second
pub IsDistinct-append : {K : Type 0} (same : K → K → Bool) (xs ys : List K) → IsDistinct same xs → AllByRecursion (IsNew same ys) xs → IsDistinct same ys →
    IsDistinct same (xs ++ ys)
unfolding IsDistinct
IsDistinct-append same [] ys front apart back = back
IsDistinct-append same (x ∷ xs) ys front apart back =
    (AllByRecursion-append _ xs ys front.0 apart.0, IsDistinct-append same xs ys front.1 apart.1 back)

pub IsDistinct-parts : {K : Type 0} (same : K → K → Bool) (xs ys : List K) → IsDistinct same (xs ++ ys) →
    IsDistinct same xs × AllByRecursion (IsNew same ys) xs × IsDistinct same ys
unfolding IsDistinct
IsDistinct-parts same [] ys all = (tt, tt, all)
IsDistinct-parts same (x ∷ xs) ys all =
    let here = AllByRecursion-parts _ xs ys all.0 in let rest = IsDistinct-parts same xs ys all.1 in (
      (here.0, rest.0),
      (here.1, rest.1),
      rest.2,
    )

-- an element at a place is in the list
pub Contains-at : {A : Type 0} (xs : List A) (i : ℕ) (x : A) → slice_get xs i ≡ Some x → Contains xs x
Contains-at xs i x here = (i, slice_get_within xs i x here, get_or_from_slice_get xs i x x here)

-- at a place within the list there is an element
pub slice_get-within : {A : Type 0} (xs : List A) (i : ℕ) → i < length xs → (x : A) × (slice_get xs i ≡ Some x)
slice_get-within [] i within = absurd (omega arith)
slice_get-within (x ∷ xs) zero within = (x, refl)
slice_get-within (x ∷ xs) (suc i) within = slice_get-within xs i (omega arith)

-- a list and another behind it, by places
pub slice_get-front : {A : Type 0} (xs ys : List A) (i : ℕ) → i < length xs → slice_get (xs ++ ys) i ≡ slice_get xs i
slice_get-front [] ys i within = absurd (omega arith)
slice_get-front (x ∷ xs) ys zero within = refl
slice_get-front (x ∷ xs) ys (suc i) within = slice_get-front xs ys i (omega arith)

pub slice_get-behind : {A : Type 0} (xs ys : List A) (i : ℕ) → length xs ≤ i → slice_get (xs ++ ys) i ≡ slice_get ys (i - length xs)
slice_get-behind [] ys i behind = let same : i - 0 ≡ i = omega arith in ap (slice_get ys) (sym same)
slice_get-behind (x ∷ xs) ys zero behind = absurd (omega arith)
slice_get-behind (x ∷ xs) ys (suc i) behind = slice_get-behind xs ys i (omega arith) ∙ ap (slice_get ys) (omega arith)

-- a list with a first element, and what is behind it
pub slice_get-first : {A : Type 0} (xs : List A) (x : A) → slice_get xs 0 ≡ Some x → (rest : List A) × (xs ≡ x ∷ rest)
slice_get-first [] x here = absurd (cc)
slice_get-first (y ∷ rest) x here = (rest, cc)

-- the first element behind a place, and what is behind it
pub drop-first : {A : Type 0} (n : ℕ) (xs ys : List A) (x : A) → drop n xs ≡ x ∷ ys → (slice_get xs n ≡ Some x) × (drop (suc n) xs ≡ ys)
drop-first zero [] ys x cut = absurd (cc)
drop-first zero (y ∷ xs) ys x cut = (cc, cc)
drop-first (suc n) [] ys x cut = absurd (cc)
drop-first (suc n) (y ∷ xs) ys x cut = drop-first n xs ys x cut

-- what was written at a place stands there
pub slice_get-set : {A : Type 0} (xs : List A) (k : ℕ) (x y : A) → slice_get xs k ≡ Some x → slice_get (slice_set xs k y) k ≡ Some y
slice_get-set [] k x y here = cc
slice_get-set (z ∷ zs) zero x y here = refl
slice_get-set (z ∷ zs) (suc k) x y here = slice_get-set zs k x y here

-- all other places are as before
pub slice_get-set_other : {A : Type 0} (xs : List A) (k j : ℕ) (y : A) → j ≢ k → slice_get (slice_set xs k y) j ≡ slice_get xs j
slice_get-set_other [] k j y other = refl
slice_get-set_other (z ∷ zs) zero zero y other = absurd (other refl)
slice_get-set_other (z ∷ zs) zero (suc j) y other = refl
slice_get-set_other (z ∷ zs) (suc k) zero y other = refl
slice_get-set_other (z ∷ zs) (suc k) (suc j) y other = slice_get-set_other zs k j y (λ same. other (ap suc same))

-- an element that a list has stands at a place
pub place_of : {A : Type 0} (xs : List A) (x : A) → Contains xs x → (k : ℕ) × (slice_get xs k ≡ Some x)
place_of [] x has = absurd (Contains-nil x has)
place_of (y ∷ ys) x has =
    elim (Contains-cons y ys x has) [
      | inl same ↦ (0, ap Some same)
      | inr behind ↦ let found = place_of ys x behind in (suc found.0, found.1)
    ]

-- the front of a list, by places
pub slice_get-take : {A : Type 0} (xs : List A) (n k : ℕ) → k < n → slice_get (take n xs) k ≡ slice_get xs k
slice_get-take [] zero k within = absurd (omega (arith, within))
slice_get-take [] (suc n) k within = refl
slice_get-take (x ∷ xs) zero k within = absurd (omega (arith, within))
slice_get-take (x ∷ xs) (suc n) zero within = refl
slice_get-take (x ∷ xs) (suc n) (suc k) within = slice_get-take xs n k (omega (arith, within))

-- one element more of a front
pub take_next : {A : Type 0} (xs : List A) (k : ℕ) (x : A) → slice_get xs k ≡ Some x → take (k + 1) xs ≡ take k xs ++ x ∷ []
take_next xs k x at = take_more xs k x (slice_get_within xs k x at) ∙ ap (λ y. take k xs ++ y ∷ []) (get_or_from_slice_get xs k x x at)

-- a list is what stands before a place, the element there, and what stands behind it
pub split_at : {A : Type 0} (xs : List A) (k : ℕ) (x : A) → slice_get xs k ≡ Some x → xs ≡ take k xs ++ x ∷ drop (k + 1) xs
split_at xs k x at =
    let within : k < length xs = slice_get_within xs k x at in
    sym (take-append-drop k xs) ∙ ap (λ ys. take k xs ++ ys) (drop_more xs k x within)
    ∙ ap (λ y. take k xs ++ y ∷ drop (k + 1) xs) (get_or_from_slice_get xs k x x at)

-- an element of a list with one more at its end
pub slice_get_push : {A : Type 0} (xs : List A) (x : A) (k : ℕ) (y : A) → slice_get (xs ++ x ∷ []) k ≡ Some y
    → (slice_get xs k ≡ Some y) ⊎ ((k ≡ length xs) × (x ≡ y))
slice_get_push [] x zero y at = inr (refl, cc)
slice_get_push [] x (suc k) y at = cc
slice_get_push (z ∷ zs) x zero y at = inl at
slice_get_push (z ∷ zs) x (suc k) y at =
    elim (slice_get_push zs x k y at) [
      | inl before ↦ inl before
      | inr last ↦ inr (ap suc last.0, last.1)
    ]
