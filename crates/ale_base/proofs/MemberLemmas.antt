-- What stands in a list, what is found in it, and one more element at its end.
use Rattle.std.specs.Prelude.{find, filter, Contains}
use Rattle.std.specs.List.{list_any, list_all, filter_map, cons_option}
use Rattle.std.proofs.Common.{◌≡◌, zero, suc, Bool, true, false, cond, ◌&&◌, ◌||◌, Option, Some, None, List, [], ◌∷◌, ◌++◌, map, inl, inr, ◌⊎◌, refl, sym, ap}
use Rattle.std.proofs.Common.{subst, ◌∙◌, arith, append_assoc}
use Rattle.std.proofs.lemmas.Bool.{cases_Bool, cond-true, cond-false, and_parts, and_from, or_cases}
use Rattle.std.proofs.lemmas.List.{append-nil}
use Rattle.std.proofs.lemmas.List.Elements.{Contains-append_left, filter-append, filter_map-append}
use Rattle.std.proofs.lemmas.Option.{same_Some}

-- ---- Contains

pub Contains-here : {X : Type 0} (x : X) (xs : List X) → Contains (x ∷ xs) x
Contains-here x xs = (0, omega arith, refl)

pub Contains-there : {X : Type 0} (y : X) (xs : List X) (x : X) → Contains xs x → Contains (y ∷ xs) x
Contains-there y xs x (k, within, same) = (suc k, omega arith, same)

pub Contains-cons : {X : Type 0} (y : X) (xs : List X) (x : X) → Contains (y ∷ xs) x → (y ≡ x) ⊎ Contains xs x
Contains-cons y xs x (zero, within, same) = inl same
Contains-cons y xs x (suc k, within, same) = inr (k, omega arith, same)

pub Contains-nil : {X : Type 0} (x : X) → Contains [] x → ⊥
Contains-nil x (k, within, same) = omega arith

pub Contains-map : {X Y : Type 0} (f : X → Y) (xs : List X) (x : X) → Contains xs x → Contains (map f xs) (f x)
Contains-map f [] x has = absurd (Contains-nil x has)
Contains-map f (y ∷ ys) x has =
    elim (Contains-cons y ys x has) [
      | inl same ↦ subst (λ z. Contains (map f (y ∷ ys)) (f z)) same (Contains-here (f y) (map f ys))
      | inr behind ↦ Contains-there (f y) (map f ys) (f x) (Contains-map f ys x behind)
    ]

pub Contains-map_back : {X Y : Type 0} (f : X → Y) (xs : List X) (y : Y) → Contains (map f xs) y → (x : X) × Contains xs x × (f x ≡ y)
Contains-map_back f [] y has = absurd (Contains-nil y has)
Contains-map_back f (x ∷ xs) y has =
    elim (Contains-cons (f x) (map f xs) y has) [
      | inl same ↦ (x, Contains-here x xs, same)
      | inr behind ↦ let found = Contains-map_back f xs y behind in (found.0, Contains-there x xs found.0 found.1, found.2)
    ]

pub Contains-filter : {X : Type 0} (p : X → Bool) (xs : List X) (x : X) → Contains xs x → p x ≡ true → Contains (filter p xs) x
Contains-filter p [] x has passes = absurd (Contains-nil x has)
Contains-filter p (y ∷ ys) x has passes =
    elim (Contains-cons y ys x has) [
      | inl same ↦ let kept : p y ≡ true = ap p same ∙ passes in
          rw kept (subst (λ z. Contains (y ∷ filter p ys) z) same (Contains-here y (filter p ys)))
      | inr behind ↦ kept_behind p y ys x (Contains-filter p ys x behind passes)
    ]
  where
    kept_behind : {X : Type 0} (p : X → Bool) (y : X) (ys : List X) (x : X) → Contains (filter p ys) x → Contains (filter p (y ∷ ys)) x
    kept_behind p y ys x has =
        elim (cases_Bool (p y)) [
          | inl pass ↦ rw pass (Contains-there y (filter p ys) x has)
          | inr miss ↦ rw miss has
        ]

pub Contains-filter_back : {X : Type 0} (p : X → Bool) (xs : List X) (x : X) → Contains (filter p xs) x → Contains xs x × (p x ≡ true)
Contains-filter_back p [] x has = absurd (Contains-nil x has)
Contains-filter_back p (y ∷ ys) x has =
    elim (cases_Bool (p y)) [
      | inl pass ↦ elim (Contains-cons y (filter p ys) x (rw pass at has)) [
        | inl same ↦ (subst (λ z. Contains (y ∷ ys) z) same (Contains-here y ys), sym (ap p same) ∙ pass)
        | inr behind ↦ let found = Contains-filter_back p ys x behind in (Contains-there y ys x found.0, found.1)
      ]
      | inr miss ↦ let found = Contains-filter_back p ys x (rw miss at has) in (Contains-there y ys x found.0, found.1)
    ]

-- ---- list_any, find

pub list_any-Contains : {X : Type 0} (p : X → Bool) (xs : List X) (x : X) → Contains xs x → p x ≡ true → list_any p xs ≡ true
list_any-Contains p [] x has passes = absurd (Contains-nil x has)
list_any-Contains p (y ∷ ys) x has passes =
    elim (Contains-cons y ys x has) [
      | inl same ↦ let pass : p y ≡ true = ap p same ∙ passes in rw pass refl
      | inr behind ↦ let pass : list_any p ys ≡ true = list_any-Contains p ys x behind passes in rw pass (either p y)
    ]
  where
    either : {X : Type 0} (p : X → Bool) (y : X) → (p y || true) ≡ true
    either p y = elim (p y) as (λ b. (b || true) ≡ true) [ true ↦ refl | false ↦ refl ]

pub list_any-found : {X : Type 0} (p : X → Bool) (xs : List X) → list_any p xs ≡ true → (x : X) × Contains xs x × (p x ≡ true)
list_any-found p [] some = cc
list_any-found p (y ∷ ys) some =
    elim (or_cases (p y) (list_any p ys) some) [
      | inl pass ↦ (y, Contains-here y ys, pass)
      | inr behind ↦ let found = list_any-found p ys behind in (found.0, Contains-there y ys found.0 found.1, found.2)
    ]

pub list_all-Contains : {X : Type 0} (p : X → Bool) (xs : List X) (x : X) → list_all p xs ≡ true → Contains xs x → p x ≡ true
list_all-Contains p [] x all has = absurd (Contains-nil x has)
list_all-Contains p (y ∷ ys) x all has =
    let parts = and_parts (p y) (list_all p ys) all in
    elim (Contains-cons y ys x has) [
      | inl same ↦ sym (ap p same) ∙ parts.0
      | inr behind ↦ list_all-Contains p ys x parts.1 behind
    ]

pub find-Some : {X : Type 0} (p : X → Bool) (xs : List X) (x : X) → find p xs ≡ Some x → Contains xs x × (p x ≡ true)
find-Some p [] x found = cc
find-Some p (y ∷ ys) x found =
    elim (cases_Bool (p y)) [
      | inl pass ↦ let same : y ≡ x = same_Some y x (sym (cond-true (p y) (Some y) (find p ys) pass) ∙ found) in
          (subst (λ z. Contains (y ∷ ys) z) same (Contains-here y ys), sym (ap p same) ∙ pass)
      | inr miss ↦ let behind = find-Some p ys x (sym (cond-false (p y) (Some y) (find p ys) miss) ∙ found) in
          (Contains-there y ys x behind.0, behind.1)
    ]

-- a test that passes fewer elements, but still the first one, finds it
pub find-narrower : {X : Type 0} (p q : X → Bool) (xs : List X) (x : X) → find p xs ≡ Some x → ((y : X) → p y ≡ false → q y ≡ false) → q x ≡ true →
    find q xs ≡ Some x
find-narrower p q [] x found fewer passes = found
find-narrower p q (y ∷ ys) x found fewer passes =
    elim (cases_Bool (p y)) [
      | inl pass ↦ let same : y ≡ x = same_Some y x (sym (cond-true (p y) (Some y) (find p ys) pass) ∙ found) in
          cond-true (q y) (Some y) (find q ys) (ap q same ∙ passes) ∙ ap Some same
      | inr miss ↦ cond-false (q y) (Some y) (find q ys) (fewer y miss)
          ∙ find-narrower p q ys x (sym (cond-false (p y) (Some y) (find p ys) miss) ∙ found) fewer passes
    ]

pub find-longer : {X : Type 0} (p : X → Bool) (xs ys : List X) (x : X) → find p xs ≡ Some x → find p (xs ++ ys) ≡ Some x
find-longer p [] ys x found = cc
find-longer p (z ∷ zs) ys x found =
    elim (cases_Bool (p z)) [
      | inl pass ↦ cond-true (p z) (Some z) (find p (zs ++ ys)) pass ∙ sym (cond-true (p z) (Some z) (find p zs) pass) ∙ found
      | inr miss ↦ cond-false (p z) (Some z) (find p (zs ++ ys)) miss ∙ find-longer p zs ys x (sym (cond-false (p z) (Some z) (find p zs) miss) ∙ found)
    ]

-- the first of those kept that passes
pub find-filter : {X : Type 0} (p q : X → Bool) (xs : List X) → find q (filter p xs) ≡ find (λ x. p x && q x) xs
find-filter p q [] = refl
find-filter p q (x ∷ xs) =
    elim (cases_Bool (p x)) [
      | inl pass ↦ rw pass (ap (cond (q x) (Some x)) (find-filter p q xs))
      | inr miss ↦ rw miss (find-filter p q xs)
    ]

-- ---- one more element

pub filter_map-None : {A B : Type 0} (h : A → Option B) (xs : List A) (x : A) → h x ≡ None → filter_map h (xs ++ x ∷ []) ≡ filter_map h xs
filter_map-None h xs x none = filter_map-append h xs (x ∷ []) ∙ ap (λ o. filter_map h xs ++ cons_option o []) none ∙ append-nil (filter_map h xs)

pub filter_map-Some : {A B : Type 0} (h : A → Option B) (xs : List A) (x : A) (y : B) → h x ≡ Some y → filter_map h (xs ++ x ∷ []) ≡ filter_map h xs ++ y ∷ []
filter_map-Some h xs x y some = filter_map-append h xs (x ∷ []) ∙ ap (λ o. filter_map h xs ++ cons_option o []) some

pub filter-kept : {A : Type 0} (p : A → Bool) (xs : List A) (x : A) → p x ≡ true → filter p (xs ++ x ∷ []) ≡ filter p xs ++ x ∷ []
filter-kept p xs x kept = filter-append p xs (x ∷ []) ∙ ap (λ b. filter p xs ++ cond b (x ∷ []) []) kept

pub filter-left_out : {A : Type 0} (p : A → Bool) (xs : List A) (x : A) → p x ≡ false → filter p (xs ++ x ∷ []) ≡ filter p xs
filter-left_out p xs x out = filter-append p xs (x ∷ []) ∙ ap (λ b. filter p xs ++ cond b (x ∷ []) []) out ∙ append-nil (filter p xs)

-- functions that agree at each element of a list
pub filter_map-agree : {A B : Type 0} (f g : A → Option B) (xs : List A) → ((x : A) → Contains xs x → f x ≡ g x) → filter_map f xs ≡ filter_map g xs
filter_map-agree f g [] agree = refl
filter_map-agree f g (x ∷ xs) agree =
    ap (λ o. cons_option o (filter_map f xs)) (agree x (Contains-here x xs))
    ∙ ap (cons_option (g x)) (filter_map-agree f g xs (λ y has. agree y (Contains-there x xs y has)))

pub filter_map-Contains : {A B : Type 0} (h : A → Option B) (xs : List A) (x : A) (y : B) → Contains xs x → h x ≡ Some y → Contains (filter_map h xs) y
filter_map-Contains h [] x y has some = absurd (Contains-nil x has)
filter_map-Contains h (z ∷ zs) x y has some =
    elim (Contains-cons z zs x has) [
      | inl same ↦ subst (λ o. Contains (cons_option o (filter_map h zs)) y) (sym (ap h same ∙ some)) (Contains-here y (filter_map h zs))
      | inr behind ↦ behind_option (h z) (filter_map h zs) y (filter_map-Contains h zs x y behind some)
    ]
  where
    behind_option : {B : Type 0} (o : Option B) (ys : List B) (y : B) → Contains ys y → Contains (cons_option o ys) y
    behind_option None ys y has = has
    behind_option (Some z) ys y has = Contains-there z ys y has

made_by_option : {A B : Type 0} (h : A → Option B) (z : A) (zs : List A) (y : B) (o : Option B) → h z ≡ o
    → (Contains (filter_map h zs) y → (x : A) × Contains zs x × (h x ≡ Some y))
    → Contains (cons_option o (filter_map h zs)) y → (x : A) × Contains (z ∷ zs) x × (h x ≡ Some y)
made_by_option h z zs y None is made has = let found = made has in (found.0, Contains-there z zs found.0 found.1, found.2)
made_by_option h z zs y (Some w) is made has =
    elim (Contains-cons w (filter_map h zs) y has) [
      | inl same ↦ (z, Contains-here z zs, is ∙ ap Some same)
      | inr behind ↦ let found = made behind in (found.0, Contains-there z zs found.0 found.1, found.2)
    ]

pub filter_map-Contains_back : {A B : Type 0} (h : A → Option B) (xs : List A) (y : B) → Contains (filter_map h xs) y → (x : A) × Contains xs x × (h x ≡ Some y)
filter_map-Contains_back h [] y has = absurd (Contains-nil y has)
filter_map-Contains_back h (z ∷ zs) y has = made_by_option h z zs y (h z) refl (filter_map-Contains_back h zs y) has

pub list_all-weaker : {A : Type 0} (p q : A → Bool) (xs : List A) → ((x : A) → p x ≡ true → q x ≡ true) → list_all p xs ≡ true → list_all q xs ≡ true
list_all-weaker p q [] weaker all = refl
list_all-weaker p q (x ∷ xs) weaker all =
    let parts = and_parts (p x) (list_all p xs) all in
    and_from (q x) (list_all q xs) (weaker x parts.0) (list_all-weaker p q xs weaker parts.1)
