-- Lists taken apart at their last element.
use Rattle.std.specs.Prelude.{slice_get, slice_set}
use Rattle.std.proofs.Common.{◌≡◌, ℕ, zero, suc, ◌+◌, Some, List, [], ◌∷◌, ◌++◌, length, take, refl, ap, arith}
use Rattle.std.specs.List.{AllZip, AllByRecursion}

-- a list is empty, or it has a last element
pub data Snoc {A : Type 0} : List A → Type 0 where
  none : Snoc []
  some : (front : List A) (last : A) → Snoc (front ++ last ∷ [])

snoc_more : {A : Type 0} (x : A) (xs : List A) → Snoc xs → Snoc (x ∷ xs)
snoc_more x [] none = some [] x
snoc_more x _ (some front last) = some (x ∷ front) last

pub snoc : {A : Type 0} (xs : List A) → Snoc xs
snoc [] = none
snoc (x ∷ xs) = snoc_more x xs (snoc xs)

not_empty : {A : Type 0} (xs : List A) (x : A) → [] ≡ xs ++ x ∷ [] → ⊥
not_empty [] x same = cc
not_empty (y ∷ ys) x same = cc

-- the parts are determined by the list
pub last-injective : {A : Type 0} (xs ys : List A) (x y : A) → xs ++ x ∷ [] ≡ ys ++ y ∷ [] → (xs ≡ ys) × (x ≡ y)
last-injective [] [] x y same = (refl, cc)
last-injective {A} [] (b ∷ bs) x y same = let rest : ◌≡◌ {A = List A} [] (bs ++ y ∷ []) = cc in absurd (not_empty bs y rest)
last-injective {A} (a ∷ more) [] x y same = let rest : ◌≡◌ {A = List A} [] (more ++ x ∷ []) = cc in absurd (not_empty more x rest)
last-injective (a ∷ more) (b ∷ bs) x y same =
    let rest : more ++ x ∷ [] ≡ bs ++ y ∷ [] = cc in
    let parts = last-injective more bs x y rest in
    let first : a ≡ b = cc in
    let behind : more ≡ bs = parts.0 in
    (cc, parts.1)

-- the last element is at the place of the length of those before it
pub slice_get-last : {A : Type 0} (xs : List A) (place : ℕ) (x : A) → place ≡ length xs → slice_get (xs ++ x ∷ []) place ≡ Some x
slice_get-last [] zero x is = refl
slice_get-last [] (suc k) x is = absurd (omega arith)
slice_get-last (y ∷ ys) zero x is = absurd (omega arith)
slice_get-last (y ∷ ys) (suc k) x is = slice_get-last ys k x (omega arith)

pub AllByRecursion-snoc : {A : Type 0} (P : A → Type 0) (xs : List A) (x : A) → AllByRecursion P xs → P x → AllByRecursion P (xs ++ x ∷ [])
AllByRecursion-snoc P [] x all here = (here, tt)
AllByRecursion-snoc P (y ∷ ys) x all here = (all.0, AllByRecursion-snoc P ys x all.1 here)

pub AllByRecursion-front : {A : Type 0} (P : A → Type 0) (xs : List A) (x : A) → AllByRecursion P (xs ++ x ∷ []) → AllByRecursion P xs × P x
AllByRecursion-front P [] x all = (tt, all.0)
AllByRecursion-front P (y ∷ ys) x all = let rest = AllByRecursion-front P ys x all.1 in ((all.0, rest.0), rest.1)

pub AllZip-snoc : {A B : Type 0} (R : A → B → Type 0) (xs : List A) (ys : List B) (x : A) (y : B) → AllZip R xs ys → R x y →
    AllZip R (xs ++ x ∷ []) (ys ++ y ∷ [])
AllZip-snoc R [] [] x y all here = (here, tt)
AllZip-snoc R [] (b ∷ bs) x y all here = absurd all
AllZip-snoc R (a ∷ more) [] x y all here = absurd all
AllZip-snoc R (a ∷ more) (b ∷ bs) x y all here = (all.0, AllZip-snoc R more bs x y all.1 here)

AllZip-short : {A B : Type 0} (R : A → B → Type 0) (ys : List B) (y : B) → AllZip R [] (ys ++ y ∷ []) → ⊥
AllZip-short R [] y all = all
AllZip-short R (b ∷ bs) y all = all

pub AllZip-long : {A B : Type 0} (R : A → B → Type 0) (xs : List A) (x : A) → AllZip R (xs ++ x ∷ []) [] → ⊥
AllZip-long R [] x all = all
AllZip-long R (a ∷ more) x all = all

pub AllZip-front : {A B : Type 0} (R : A → B → Type 0) (xs : List A) (ys : List B) (x : A) (y : B) → AllZip R (xs ++ x ∷ []) (ys ++ y ∷ []) →
    AllZip R xs ys × R x y
AllZip-front R [] [] x y all = (tt, all.0)
AllZip-front R [] (b ∷ bs) x y all = absurd (AllZip-short R bs y all.1)
AllZip-front R (a ∷ more) [] x y all = absurd (AllZip-long R more x all.1)
AllZip-front R (a ∷ more) (b ∷ bs) x y all = let rest = AllZip-front R more bs x y all.1 in ((all.0, rest.0), rest.1)

-- the last element of a list, and the list with another one in its place
pub set-last : {A : Type 0} (xs : List A) (n : ℕ) (x y : A) → n + 1 ≡ length xs → slice_get xs n ≡ Some x →
    (xs ≡ take n xs ++ x ∷ []) × (slice_set xs n y ≡ take n xs ++ y ∷ [])
set-last [] n x y long here = absurd (omega arith)
set-last (a ∷ []) zero x y long here = (cc, refl)
set-last (a ∷ b ∷ bs) zero x y long here = absurd (omega arith)
set-last (a ∷ more) (suc n) x y long here =
    let shorter : n + 1 ≡ length more = omega arith in
    let parts = set-last more n x y shorter here in
    (ap (λ xs. a ∷ xs) parts.0, ap (λ xs. a ∷ xs) parts.1)
