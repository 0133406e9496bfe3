-- One list begins another.
use Rattle.std.specs.Prelude.{filter, Contains}
use Rattle.std.specs.List.{filter_map}
use Rattle.std.proofs.Common.{◌≡◌, Bool, Option, List, [], ◌∷◌, ◌++◌, refl, sym, ap, subst, ◌∙◌, append_assoc}
use Rattle.std.proofs.lemmas.List.{append-nil}
use Rattle.std.proofs.lemmas.List.Elements.{Contains-append_left, filter-append, filter_map-append}
use Rattle.ale_base.specs.Prefix.{IsPrefix}

pub IsPrefix-same : {A : Type 0} (xs : List A) → IsPrefix xs xs
IsPrefix-same xs = ([], append-nil xs)

pub IsPrefix-append : {A : Type 0} (xs ys : List A) → IsPrefix xs (xs ++ ys)
IsPrefix-append xs ys = (ys, refl)

pub IsPrefix-trans : {A : Type 0} (xs ys zs : List A) → IsPrefix xs ys → IsPrefix ys zs → IsPrefix xs zs
IsPrefix-trans xs ys zs (r, same) (q, whole) = (r ++ q, sym (append_assoc xs r q) ∙ ap (λ front. front ++ q) same ∙ whole)

pub IsPrefix-filter : {A : Type 0} (p : A → Bool) (xs ys : List A) → IsPrefix xs ys → IsPrefix (filter p xs) (filter p ys)
IsPrefix-filter p xs ys (r, same) = (filter p r, sym (filter-append p xs r) ∙ ap (filter p) same)

pub IsPrefix-Contains : {A : Type 0} (xs ys : List A) (x : A) → IsPrefix xs ys → Contains xs x → Contains ys x
IsPrefix-Contains xs ys x (r, same) has = subst (λ zs. Contains zs x) same (Contains-append_left xs r x has)

pub IsPrefix-cons : {A : Type 0} (x y : A) (xs ys : List A) → x ≡ y → IsPrefix xs ys → IsPrefix (x ∷ xs) (y ∷ ys)
IsPrefix-cons x y xs ys same (r, whole) = (r, ap (λ z. z ∷ (xs ++ r)) same ∙ ap (λ zs. y ∷ zs) whole)

pub IsPrefix-parts : {A : Type 0} (x y : A) (xs ys : List A) → IsPrefix (x ∷ xs) (y ∷ ys) → (x ≡ y) × IsPrefix xs ys
IsPrefix-parts x y xs ys (r, whole) = (cc, (r, cc))

pub IsPrefix-filter_map : {A B : Type 0} (h : A → Option B) (xs ys : List A) → IsPrefix xs ys → IsPrefix (filter_map h xs) (filter_map h ys)
IsPrefix-filter_map h xs ys (r, same) = (filter_map h r, sym (filter_map-append h xs r) ∙ ap (filter_map h) same)
