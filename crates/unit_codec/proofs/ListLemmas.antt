-- Lists that are read one value after another.
use Rattle.std.specs.Cmp.Lexicographic.{pointwise, bytes_decides}
use Rattle.std.specs.List.{AllByRecursion, flat_map}
use Rattle.std.proofs.lemmas.List.Folds.{list_any-append}
use Rattle.std.proofs.lemmas.List.{take_more, flat_map_more}
use Rattle.ale_base.proofs.ListLemmas.{AllByRecursion-append}
use Rattle.std.proofs.Common.{zero, append_assoc, length, take, get_or, ap, subst, ◌||◌, not, nat_eq, ◌≡◌, ℕ, suc, ◌+◌, ◌-◌, ◌<◌, Bool, true, false, List, []}
use Rattle.std.proofs.Common.{◌∷◌, ◌++◌, Result, Ok, Err, refl, sym, ◌∙◌, arith}
use Rattle.unit_core.specs.Queues.{has_name, are_different}
use Rattle.unit_codec.specs.Fields.{any, is_other}
use Rattle.unit_codec.proofs.RuleLemmas.{not_true, parts}
use Rattle.std.specs.Prelude.{OnOk}
use Rattle.std.specs.Int.{Width}
use Rattle.ale_base.specs.declared.out_of_memory.OutOfMemory.{OutOfMemory}
use Rattle.unit_codec.specs.Reading.{Reading}
use Rattle.unit_codec.specs.Kind.{Kind, number, such_that, listed_at, listed, AllFollow, Puts, PutsAll}

-- one value more was taken
pub listed_at-more : {A : Type 0} (kind : Kind A) (rule : List A → A → Bool) (front : List A) (x : A) (count i : ℕ) (bytes rest : List ℕ)
    (total : Reading (List A)) → i < count
    → kind.read bytes ≡ Ok (x, rest) → rule front x ≡ true → listed_at kind rule (count - i) front bytes ≡ total →
    listed_at kind rule (count - (i + 1)) (front ++ x ∷ []) rest ≡ total
unfolding listed_at
listed_at-more kind rule front x count i bytes rest total more taken follows so_far =
    let one_less : count - i ≡ suc (count - (i + 1)) = omega arith in
    let step : listed_at kind rule (count - i) front bytes ≡ listed_at kind rule (count - (i + 1)) (front ++ x ∷ []) rest = rw
    (one_less, taken, follows) refl in
    sym step ∙ so_far

-- what holds of each value holds of the one at a place
pub item-has : {A : Type 0} (P : A → Type 0) (xs : List A) (i : ℕ) (x : A) → i < length xs → x ≡ get_or xs i x → AllByRecursion P xs → P x
item-has P [] i x within is all = absurd (omega arith)
item-has P (y ∷ ys) zero x within is all = subst P (sym is) all.0
item-has P (y ∷ ys) (suc i) x within is all = item-has P ys i x (omega arith) is all.1

-- one value more was appended
pub PutsAll-more : {A : Type 0} (kind : Kind A) (xs : List A) (i : ℕ) (x : A) (old mid new : List ℕ) → i < length xs → x ≡ get_or xs i x
    → PutsAll kind (take i xs) old mid → Puts kind x mid new → PutsAll kind (take (i + 1) xs) old new
PutsAll-more {A} kind xs i x old mid new within is so_far more =
    let one_more : take (i + 1) xs ≡ take i xs ++ x ∷ [] = take_more xs i x within ∙ ap (λ (y : A). take i xs ++ y ∷ []) (sym is) in
    subst (λ (l : List A). PutsAll kind l old new) (sym one_more) (record {
      fit = AllByRecursion-append kind.Fits (take i xs) (x ∷ []) so_far.fit (more.fits, tt);
      spelled = more.spelled ∙ ap (λ (l : List ℕ). l ++ kind.spell x) so_far.spelled ∙ flat_map_more kind.spell old (take i xs) x;
    })

-- any value may follow any others
pub AllFollow-any : {A : Type 0} (front xs : List A) → AllFollow any front xs
AllFollow-any front [] = tt
AllFollow-any front (x ∷ xs) = (refl, AllFollow-any (front ++ x ∷ []) xs)

-- a count and the values behind it are a list
pub listed-put : {A : Type 0} (w : Width) (limit : ℕ → Bool) (kind : Kind A) (rule : List A → A → Bool) (xs ys : List A) (n : ℕ) (old mid new : List ℕ)
    (r : Result (Unit {0}) OutOfMemory)
    → n ≡ length xs → ys ≡ xs → limit (length xs) ≡ true → AllFollow rule [] xs → Puts (number w) n old mid → OnOk r (PutsAll kind ys mid new)
    → OnOk r (Puts (listed (such_that (number w) limit) kind rule) xs old new)
unfolding listed
listed-put {A} w limit kind rule xs ys n old mid new (Ok done) count same few follow counted all =
    let c : Puts (number w) (length xs) old mid = subst (λ (k : ℕ). Puts (number w) k old mid) count counted in
    let a : PutsAll kind xs mid new = subst (λ (l : List A). PutsAll kind l mid new) same all in
    record {
      fits = ((c.fits, few), a.fit, follow);
      spelled = a.spelled ∙ ap (λ (l : List ℕ). l ++ flat_map kind.spell xs) c.spelled
          ∙ append_assoc old ((number w).spell (length xs)) (flat_map kind.spell xs);
    }
listed-put w limit kind rule xs ys n old mid new (Err fault) count same few follow counted all = tt

-- ---- names that differ

pub or_false : (a b : Bool) → (a || b) ≡ false → (a ≡ false) × (b ≡ false)
or_false true b is = absurd cc
or_false false b is = (refl, is)

-- a name that differs from another one, told from either
pub differs-back : (name other : List ℕ) → pointwise nat_eq other name ≡ false → pointwise nat_eq name other ≡ false
differs-back name other differs =
    not_true (pointwise nat_eq name other) (λ same.
    let back : pointwise nat_eq other name ≡ true = (bytes_decides other name).1 (sym ((bytes_decides name other).0 same)) in cc)

-- none of these names is among others
abbrev AreNew : List (List ℕ) → List (List ℕ) → Type 0
AreNew front names = AllByRecursion (λ name. has_name name front ≡ false) names

AreNew-one : (name : List ℕ) (names : List (List ℕ)) → has_name name names ≡ false → AreNew (name ∷ []) names
AreNew-one name [] none = tt
AreNew-one name (other ∷ names) none =
    let both = or_false (pointwise nat_eq other name) (has_name name names) none in
    (rw (differs-back name other both.0) refl, AreNew-one name names both.1)

AreNew-behind : (front : List (List ℕ)) (name : List ℕ) (names : List (List ℕ)) → AreNew front names → AreNew (name ∷ []) names →
    AreNew (front ++ name ∷ []) names
AreNew-behind front name [] first second = tt
AreNew-behind front name (other ∷ names) first second =
    (list_any-append (λ x. pointwise nat_eq x other) front (name ∷ []) ∙ rw (first.0, second.0) refl, AreNew-behind front name names first.1 second.1)

AllFollow-new : (front names : List (List ℕ)) → AreNew front names → are_different names ≡ true → AllFollow is_other front names
AllFollow-new front [] new different = tt
AllFollow-new front (name ∷ names) new different =
    let both = parts (not (has_name name names)) (are_different names) different in
    let none : has_name name names ≡ false = not_true (has_name name names) (λ same. let is = both.0 in let f : not true ≡ true = rw same at is in cc) in
    (rw new.0 refl, AllFollow-new (front ++ name ∷ []) names (AreNew-behind front name names new.1 (AreNew-one name names none)) both.1)

AreNew-none : (names : List (List ℕ)) → AreNew [] names
AreNew-none [] = tt
AreNew-none (name ∷ names) = (refl, AreNew-none names)

-- names that differ follow each other
pub AllFollow-different : (names : List (List ℕ)) → are_different names ≡ true → AllFollow is_other [] names
AllFollow-different names different = AllFollow-new [] names (AreNew-none names) different
