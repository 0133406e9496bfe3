-- The parts of a text, and what they stand for.
use Rattle.std.proofs.Common.{◌≡◌, ℕ, zero, suc, ◌+◌, ◌<◌, ◌≤◌, ◌-◌, ◌*◌, ◌==◌, ◌&&◌, true, false, nat_lt, inl, inr, Option, Some, None, Result, Ok}
use Rattle.std.proofs.Common.{Err, List, [], ◌∷◌, ◌++◌, length, take, drop, get_or, refl, sym, ap, ◌∙◌}
use Rattle.std.proofs.Common.{append_assoc, append-nil, arith, rules, ◌^◌}
use Rattle.std.specs.Borrow.{Bor}
use native.Mathlib.Numerals.{unary_clauses}
use Rattle.std.specs.Option.{is_some, option_map_or, IfSome}
use Rattle.std.specs.List.{position, position_or_len, repeat, list_all, fold}
use Rattle.std.proofs.lemmas.Bool.{cases_Bool, false≢true, ltb-true, ltb-false, lt-ltb, and_parts, and_right}
use Rattle.std.proofs.lemmas.Bool.Decides.{nat_tests}
use Rattle.std.proofs.lemmas.List.Splits.{slice_split_first, slice_split_none}
use Rattle.std.proofs.lemmas.List.Sums.{fails_before_first}
use Rattle.std.specs.Str.{IsUtf8}
use Rattle.std.specs.Char.{is_ascii_digit}
use Rattle.std.proofs.lemmas.Str.{IsUtf8-from_ascii}
use Rattle.std.proofs.lemmas.Str.Parse.{IsNumeralModel, numerals_by_fold}
use Rattle.ale_base.specs.Decimal.{decimal_value}
use Rattle.case_form.specs.declared.rule.LineEnd.{LineEnd}
use Rattle.case_form.specs.declared.rule.LineEnd.TheVariants.{Broken, OutOfMemory}
use Rattle.case_form.specs.Rules.{Reading, IsEndOf, bad_number}
use Rattle.case_form.specs.Text.{has, before, behind, parts, number_read, braced_read, part_read, both}

-- one time more
pub repeat_more : (n : ℕ) (xs : List ℕ) → repeat (n + 1) xs ≡ repeat n xs ++ xs
repeat_more zero xs = append-nil xs
repeat_more (suc n) xs = simp unary_clauses (ap (λ more. xs ++ more) (simp unary_clauses at (repeat_more n xs)) ∙ sym (append_assoc xs (repeat n xs) xs))

-- there is such a byte where the first one has a place
pub has-place : (at : ℕ) (text : List ℕ) → has at text ≡ true → position_or_len (λ b. b == at) text < length text
has-place at text found =
    elim (cases_Bool (nat_lt (position_or_len (λ b. b == at) text) (length text))) [
      | inl is ↦ ltb-true _ _ is
      | inr is ↦ absurd (false≢true (rw is at found))
    ]

pub has_none-place : (at : ℕ) (text : List ℕ) → has at text ≡ false → length text ≤ position_or_len (λ b. b == at) text
has_none-place at text none =
    elim (cases_Bool (nat_lt (position_or_len (λ b. b == at) text) (length text))) [
      | inl is ↦ absurd (false≢true (sym (rw is at none)))
      | inr is ↦ ltb-false _ _ is
    ]

-- the place of the first such byte
pub has-at : (at : ℕ) (text : List ℕ) (place : ℕ) → position (λ b. b == at) text ≡ Some place
    → (has at text ≡ true) × (take place text ≡ before at text) × (drop (place + 1) text ≡ behind at text)
has-at at text place is =
    let found : has at text ≡ true = ap is_some is in
    let short : nat_lt (position_or_len (λ b. b == at) text) (length text) ≡ true = lt-ltb _ _ (has-place at text found) in
    let first : Some (position_or_len (λ b. b == at) text) ≡ Some place = rw short at is in
    let same : position_or_len (λ b. b == at) text ≡ place = cc in
    (found, rw same refl, rw same refl)

-- the first part, where there is such a byte
pub parts-found : (at : ℕ) (text : List ℕ) → has at text ≡ true → parts at text ≡ before at text ∷ parts at (behind at text)
parts-found at text found = slice_split_first (λ b. b == at) text 0 (has-place at text found)

-- the only part, where there is none
pub parts-none : (at : ℕ) (text : List ℕ) → has at text ≡ false → parts at text ≡ text ∷ []
parts-none at text none = slice_split_none (λ b. b == at) text (λ k x within. fails_before_first (λ b. b == at) text k x (omega (arith, has_none-place at text none)))

-- bytes so far, those of the next reading, and what comes behind
pub both_more : {E : Type 0} (front next : List ℕ) (line more : Result (List ℕ) E) → both (Ok front) line ≡ Ok next
    → both (Ok front) (both line more) ≡ both (Ok next) more
both_more front next (Err fault) more read = absurd (cc)
both_more front next (Ok bytes) (Err fault) read = refl
both_more front next (Ok bytes) (Ok rest) read =
    let same : front ++ bytes ≡ next = cc in
    ap Ok (sym (append_assoc front bytes rest) ∙ ap (λ all. all ++ rest) same)

-- what ends the first of two ends both
pub end_both : (reading more : Reading (List ℕ)) (end : LineEnd) → IsEndOf reading end → IsEndOf (both reading more) end
end_both reading more (Broken rule) is = rw is refl
end_both reading more OutOfMemory is = tt

-- the digits of `parse` are those here
pub digits_own : IsNumeralModel (λ ds. list_all is_ascii_digit ds ≡ true) decimal_value
digits_own = numerals_by_fold _ (search rules) (λ n ds. fold (λ number digit. number * 10 + (digit - 48)) n ds) (search rules)

-- digits of a number of 32 bits
pub number_read-fits : (digits : List ℕ) → list_all is_ascii_digit digits ≡ true → 0 < length digits → decimal_value digits < 2 ^ 32
    → number_read digits ≡ Ok (decimal_value digits)
number_read-fits digits all some fits = rw (all, lt-ltb 0 (length digits) some, lt-ltb (decimal_value digits) (2 ^ 32) fits) refl

-- no digits, or those of a larger one
pub number_read-wide : (digits : List ℕ) → ((0 < length digits) × (decimal_value digits < 2 ^ 32) → ⊥) → number_read digits ≡ Err bad_number
number_read-wide digits wide =
    elim (cases_Bool (nat_lt 0 (length digits) && nat_lt (decimal_value digits) (2 ^ 32))) [
      | inl most ↦ absurd (wide (ltb-true _ _ (and_parts _ _ most).0, ltb-true _ _ (and_parts _ _ most).1))
      | inr none ↦ rw (and_right (list_all is_ascii_digit digits) _ none) refl
    ]

-- digits are text
pub digits-IsUtf8 : (digits : List ℕ) → list_all is_ascii_digit digits ≡ true → IsUtf8 digits
digits-IsUtf8 digits all = IsUtf8-from_ascii digits (below digits all)
  where
    below : (digits : List ℕ) → list_all is_ascii_digit digits ≡ true → (i : ℕ) → get_or digits i 0 < 128
    below [] all i = omega arith
    below (b ∷ bs) all zero = let first = (and_parts (is_ascii_digit b) (list_all is_ascii_digit bs) all).0 in grind (arith, nat_tests)
    below (b ∷ bs) all (suc i) = below bs (and_parts (is_ascii_digit b) (list_all is_ascii_digit bs) all).1 i

-- what is behind an open brace
pub part-end : (part inner : List ℕ) (end : LineEnd) → has 125 part ≡ true → inner ≡ before 125 part → IsEndOf (braced_read inner) end → IsEndOf (part_read part) end
part-end part inner end found is ends = rw found (end_both (braced_read (before 125 part)) (Ok (behind 125 part)) end (rw is at ends))

pub part-read : (old next part inner plain : List ℕ) → has 125 part ≡ true → inner ≡ before 125 part → plain ≡ behind 125 part
    → both (Ok old) (braced_read inner) ≡ Ok next → both (Ok old) (part_read part) ≡ Ok (next ++ plain)
part-read old next part inner plain found is rest read =
    rw (found, rest) (both_more old next (braced_read (before 125 part)) (Ok (behind 125 part)) (rw is at read))

-- what is left after one more part is shorter
pub left_fewer : (left : Option (Bor (List ℕ))) (n : ℕ) → IfSome left (λ text. length text.now < n) → option_map_or (λ text. suc (length text.now)) left 0 < suc n
left_fewer None n fewer = omega arith
left_fewer (Some text) n fewer = omega arith
