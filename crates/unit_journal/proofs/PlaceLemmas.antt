-- Entries of a log that grows, and lists that change at one place.
use Rattle.std.specs.Prelude.{slice_get, slice_set, MatchOption}
use Rattle.std.specs.Option.{unwrap_or}
use Rattle.std.proofs.Common.{◌≡◌, ◌≢◌, ◌<◌, ℕ, zero, suc, Option, Some, None, List, [], ◌∷◌, ◌++◌, length, map, refl, sym, ap, ◌∙◌, arith, length-append}
use Rattle.std.proofs.lemmas.List.{length-set}
use Rattle.std.proofs.lemmas.Option.{same_Some}
use Rattle.unit_core.specs.declared.records.Record.{Record}
use Rattle.unit_codec.specs.declared.entry.Entry.{Entry}
use Rattle.unit_codec.specs.Entries.{entry_with}
use Rattle.unit_journal.specs.OnDisk.{entries_of}
use Rattle.unit_journal.specs.steps.Moments.{with_one_more}

-- one record more with its moment is one entry more
pub entries_of-push : (moments : List (Option ℕ)) (log : List Record) (moment : Option ℕ) (what : Record) → length moments ≡ length log
    → entries_of (moments ++ moment ∷ []) (log ++ what ∷ []) ≡ entries_of moments log ++ entry_with moment what ∷ []
entries_of-push [] [] moment what same = refl
entries_of-push [] (r ∷ log) moment what same = absurd (omega arith)
entries_of-push (m ∷ moments) [] moment what same = absurd (omega arith)
entries_of-push (m ∷ moments) (r ∷ log) moment what same = ap (λ l. entry_with m r ∷ l) (entries_of-push moments log moment what (omega arith))

-- what the entries of a log hold is the log
pub entries_of-records : (moments : List (Option ℕ)) (log : List Record) → length moments ≡ length log
    → map (λ (entry : Entry). entry.what) (entries_of moments log) ≡ log
entries_of-records [] [] same = refl
entries_of-records [] (r ∷ log) same = absurd (omega arith)
entries_of-records (m ∷ moments) [] same = absurd (omega arith)
entries_of-records (m ∷ moments) (r ∷ log) same = ap (λ l. r ∷ l) (entries_of-records moments log (omega arith))

-- what was set at a place is there
pub got-set : {A : Type 0} (xs : List A) (k : ℕ) (x : A) → k < length xs → slice_get (slice_set xs k x) k ≡ Some x
got-set [] k x within = absurd (omega arith)
got-set (z ∷ zs) zero x within = refl
got-set (z ∷ zs) (suc k) x within = got-set zs k x (omega arith)

-- the same where the place is named otherwise
pub got-set_at : {A : Type 0} (xs : List A) (k j : ℕ) (x : A) → k ≡ j → k < length xs → slice_get (slice_set xs k x) j ≡ Some x
got-set_at xs k j x at within = ap (λ (i : ℕ). slice_get (slice_set xs k x) i) (sym at) ∙ got-set xs k x within

-- all other places are as before
pub got-set_other : {A : Type 0} (xs : List A) (k j : ℕ) (y : A) → j ≢ k → slice_get (slice_set xs k y) j ≡ slice_get xs j
got-set_other [] k j y other = refl
got-set_other (z ∷ zs) zero zero y other = absurd (other refl)
got-set_other (z ∷ zs) zero (suc j) y other = refl
got-set_other (z ∷ zs) (suc k) zero y other = refl
got-set_other (z ∷ zs) (suc k) (suc j) y other = got-set_other zs k j y (λ same. other (ap suc same))

-- what is there already changes nothing
pub set-got : {A : Type 0} (xs : List A) (k : ℕ) (x y : A) → slice_get xs k ≡ Some x → y ≡ x → slice_set xs k y ≡ xs
set-got [] k x y got same = cc
set-got (z ∷ zs) zero x y got same = cc
set-got (z ∷ zs) (suc k) x y got same = ap (λ r. z ∷ r) (set-got zs k x y got same)

-- the last of two values at a place stays
pub set-again : {A : Type 0} (xs : List A) (k : ℕ) (x y : A) → slice_set (slice_set xs k x) k y ≡ slice_set xs k y
set-again [] k x y = refl
set-again (z ∷ zs) zero x y = refl
set-again (z ∷ zs) (suc k) x y = ap (λ r. z ∷ r) (set-again zs k x y)

-- a place within a list holds what is read there, whatever stands for nothing
pub got-within : {A : Type 0} (xs : List A) (k : ℕ) (none : A) → k < length xs → slice_get xs k ≡ Some (unwrap_or (slice_get xs k) none)
got-within [] k none within = absurd (omega arith)
got-within (z ∷ zs) zero none within = refl
got-within (z ∷ zs) (suc k) none within = got-within zs k none (omega arith)

-- lists with one item more are the same before it
same-front : {A : Type 0} (xs ys : List A) (x y : A) → xs ++ x ∷ [] ≡ ys ++ y ∷ [] → xs ≡ ys
same-front [] [] x y same = refl
same-front [] (b ∷ ys) x y same = absurd (let long = ap length same in omega (arith, long, length-append ys (y ∷ [])))
same-front (a ∷ xs) [] x y same = absurd (let long = ap length same in omega (arith, long, length-append xs (x ∷ [])))
same-front (a ∷ xs) (b ∷ ys) x y same =
    let first : a ≡ b = cc in
    let rest : xs ++ x ∷ [] ≡ ys ++ y ∷ [] = cc in
    let front = same-front xs ys x y rest in
    cc

-- what is left where the last item was taken
pub popped : {A : Type 0} (last : Option A) (before after front : List A) (item : A)
    → MatchOption last ((before ≡ []) × (after ≡ [])) (λ l. before ≡ after ++ l ∷ [])
    → before ≡ front ++ item ∷ [] → after ≡ front
popped None before after front item took is = absurd (let long = ap length (sym took.0 ∙ is) in omega (arith, long, length-append front (item ∷ [])))
popped (Some l) before after front item took is = same-front after front l item (sym took ∙ is)

-- a moment that is taken back from where it was noted leaves all as before
pub taken-back : (before noted : List (List (Option ℕ))) (place : ℕ) (moment : Option ℕ) (here after : List (Option ℕ)) (last : Option (Option ℕ))
    → place < length before
    → noted ≡ with_one_more before place moment → slice_get noted place ≡ Some here
    → MatchOption last ((here ≡ []) × (after ≡ [])) (λ l. here ≡ after ++ l ∷ [])
    → slice_set noted place after ≡ before
taken-back before noted place moment here after last within is got took =
    let front = unwrap_or (slice_get before place) [] in
    let same : here ≡ front ++ moment ∷ [] =
    same_Some here (front ++ moment ∷ [])
    (sym got ∙ ap (λ (l : List (List (Option ℕ))). slice_get l place) is ∙ got-set before place (front ++ moment ∷ []) within) in
    ap (λ (l : List (List (Option ℕ))). slice_set l place after) is
    ∙ set-again before place (front ++ moment ∷ []) after
    ∙ set-got before place front after (got-within before place [] within) (popped last here after front moment took same)

-- a moment that is noted is at the end of those at its place
pub noted-here : (moments noted : List (List (Option ℕ))) (k place : ℕ) (moment : Option ℕ) → k ≡ place → k < length moments
    → noted ≡ with_one_more moments k moment
    → slice_get noted place ≡ Some (unwrap_or (slice_get moments place) [] ++ moment ∷ [])
noted-here moments noted k place moment at within is =
    ap (λ (l : List (List (Option ℕ))). slice_get l place) is
    ∙ got-set_at moments k place (unwrap_or (slice_get moments k) [] ++ moment ∷ []) at within
    ∙ ap (λ (i : ℕ). Some (unwrap_or (slice_get moments i) [] ++ moment ∷ [])) at

-- noting a moment adds no place
pub length-noted : (moments noted : List (List (Option ℕ))) (k : ℕ) (moment : Option ℕ) → noted ≡ with_one_more moments k moment
    → length noted ≡ length moments
length-noted moments noted k moment is = ap (λ (l : List (List (Option ℕ))). length l) is
    ∙ length-set moments k (unwrap_or (slice_get moments k) [] ++ moment ∷ [])
