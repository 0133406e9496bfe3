-- The numbers by which letters are kept.
use Rattle.std.specs.declared.cmp.Ordering.{Ordering}
use Rattle.std.specs.declared.cmp.Ordering.TheVariants.{Less, Equal, Greater}
use Rattle.std.specs.Ordering.{is_eq, ordering_then, nat_cmp}
use Rattle.std.specs.BTreeMap.{BTreeMap, UpdatesBy, is_at}
use Rattle.std.specs.Map.{lookup}
use Rattle.std.specs.Option.{unwrap_or}
use Rattle.std.proofs.Common.{◌≡◌, ◌&&◌, ℕ, eqb, Bool, true, false, cond, Option, Some, None, List, [], ◌∷◌, inl, inr, refl, sym, ap, ◌∙◌}
use Rattle.std.proofs.Common.{arith}
use Rattle.std.proofs.lemmas.Bool.{and_parts, cases_order, eqb-true, lt-ltb, le-ltb, eq-eqb, ne_eqb}
use Rattle.ale_base.specs.Tid.{TidOf, is_tid}
use Rattle.unit_works.specs.declared.letter.Letter.{Letter}
use Rattle.unit_works.specs.Wires.{after_take, are_numbers_of, letters_left, rest_letters}

-- how numbers are compared: systems first
abbrev pub numbers_cmp : ℕ × ℕ → ℕ × ℕ → Ordering
numbers_cmp a b = ordering_then (nat_cmp a.0 b.0) (nat_cmp a.1 b.1)

equal_numbers : (a b : ℕ) → is_eq (nat_cmp a b) ≡ eqb a b
equal_numbers a b =
    elim (cases_order a b) [
      | inl same ↦ rw (le-ltb a b (omega (arith, same)), eq-eqb a b same) refl
      | inr apart ↦ elim apart [
        | inl less ↦ rw (lt-ltb a b less, ne_eqb a b (λ same. omega (arith, same, less))) refl
        | inr more ↦ rw (le-ltb a b (omega (arith, more)), ne_eqb a b (λ same. omega (arith, same, more))) refl
      ]
    ]

equal_both : (a b : Ordering) → is_eq (ordering_then a b) ≡ (is_eq a && is_eq b)
equal_both Less b = refl
equal_both Equal b = refl
equal_both Greater b = refl

-- numbers are equal to those of an id exactly where they are that id's
pub equal-of : (tid : TidOf) (numbers : ℕ × ℕ) → is_at (numbers_cmp (tid.system, tid.unit)) numbers ≡ are_numbers_of tid numbers
equal-of tid numbers =
    equal_both (nat_cmp tid.system numbers.0) (nat_cmp tid.unit numbers.1)
    ∙ ap (λ b. b && is_eq (nat_cmp tid.unit numbers.1)) (equal_numbers tid.system numbers.0)
    ∙ ap (λ b. eqb tid.system numbers.0 && b) (equal_numbers tid.unit numbers.1)

-- what is found by the numbers of an id
pub found-of : (tid : TidOf) (kept : List ((ℕ × ℕ) × List Letter)) → lookup (is_at (numbers_cmp (tid.system, tid.unit))) kept ≡ lookup (are_numbers_of tid)
    kept
found-of tid [] = refl
found-of tid (one ∷ kept) =
    ap (λ b. cond b (Some one.1) (lookup (is_at (numbers_cmp (tid.system, tid.unit))) kept)) (equal-of tid one.0)
    ∙ ap (cond (are_numbers_of tid one.0) (Some one.1)) (found-of tid kept)

-- what was found by the numbers of an id is left of its unit
pub found-left : (tid : TidOf) (numbers : ℕ × ℕ) (kept : List ((ℕ × ℕ) × List Letter)) (found : Option (List Letter)) → numbers ≡ (tid.system, tid.unit)
    → found ≡ lookup (is_at (numbers_cmp numbers)) kept → unwrap_or found [] ≡ letters_left kept tid
found-left tid numbers kept found are is =
    ap (λ (line : Option (List Letter)). unwrap_or line [])
    (is ∙ ap (λ (n : ℕ × ℕ). lookup (is_at (numbers_cmp n)) kept) are ∙ found-of tid kept)

or_none : (b : Bool) (line : List Letter) (found : Option (List Letter)) → unwrap_or (cond b (Some line) found) [] ≡ cond b line (unwrap_or found [])
or_none true line found = refl
or_none false line found = refl

-- what is left of each unit once another line is kept by the numbers of one
pub written-left : (tid : TidOf) (numbers : ℕ × ℕ) (before after : BTreeMap (ℕ × ℕ) (List Letter)) (line : List Letter) → numbers ≡ (tid.system, tid.unit)
    → UpdatesBy numbers_cmp (numbers_cmp numbers) before after (Some line)
    → (other : TidOf) → letters_left after.entries other ≡ cond (is_tid tid other) line (letters_left before.entries other)
written-left tid numbers before after line are updates other =
    let asked : ℕ × ℕ = (other.system, other.unit) in
    ap (λ (f : Option (List Letter)). unwrap_or f [])
    (sym (found-of other after.entries) ∙ updates.0 asked
    ∙ ap (λ (n : ℕ × ℕ). cond (is_at (numbers_cmp n) asked) (Some line) (lookup (is_at (numbers_cmp asked)) before.entries)) are
    ∙ ap (λ b. cond b (Some line) (lookup (is_at (numbers_cmp asked)) before.entries)) (equal-of tid asked)
    ∙ ap (cond (is_tid tid other) (Some line)) (found-of other before.entries))
    ∙ or_none (is_tid tid other) line (lookup (are_numbers_of other) before.entries)

-- ids that are the same are equal
is_tid-equal : (a b : TidOf) → is_tid a b ≡ true → a ≡ b
is_tid-equal a b same =
    let parts = and_parts (eqb a.system b.system) (eqb a.unit b.unit) same in
    let systems : a.system ≡ b.system = eqb-true a.system b.system parts.0 in
    let units : a.unit ≡ b.unit = eqb-true a.unit b.unit parts.1 in
    λ i. record { system = systems i; unit = units i }

taken : (b : Bool) (its its_own : List Letter) → its ≡ [] → (b ≡ true → its_own ≡ []) → its_own ≡ cond b (rest_letters its) its_own
taken true its its_own none own = own refl ∙ sym (ap rest_letters none)
taken false its its_own none own = refl

-- a letter that is taken where none is left leaves all as it is
pub none-taken : (tid other : TidOf) (kept : List ((ℕ × ℕ) × List Letter)) → letters_left kept tid ≡ []
    → letters_left kept other ≡ after_take tid (letters_left kept) other
none-taken tid other kept none =
    taken (is_tid tid other) (letters_left kept tid) (letters_left kept other) none
    (λ same. ap (letters_left kept) (sym (is_tid-equal tid other same)) ∙ none)
