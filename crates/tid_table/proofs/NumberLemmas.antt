-- An id among the numbers that a table keeps.
use Rattle.std.specs.declared.cmp.Ordering.{Ordering}
use Rattle.std.specs.declared.cmp.Ordering.TheVariants.{Less, Equal, Greater}
use Rattle.std.specs.Ordering.{is_eq, ordering_then, nat_cmp}
use Rattle.std.specs.List.{list_any}
use Rattle.std.specs.BTreeMap.{is_at}
use Rattle.std.proofs.Common.{◌≡◌, ◌&&◌, ◌||◌, not, ℕ, eqb, Bool, true, false, cond, List, [], ◌∷◌, map, inl, inr, refl, sym, ap, ◌∙◌}
use Rattle.std.proofs.Common.{arith}
use Rattle.std.proofs.lemmas.Bool.{cases_order, cases_eq, lt-ltb, le-ltb, eq-eqb, ne_eqb}
use Rattle.ale_base.specs.Tid.{TidOf, is_tid}
use Rattle.ale_base.proofs.TidLemmas.{is_tid-turned}
use Rattle.unit_core.specs.Queues.{is_listed}
use Rattle.tid_table.specs.Numbers.{tid_of}

-- how the table compares numbers: systems first
abbrev pub numbers_cmp : ℕ × ℕ → ℕ × ℕ → Ordering
numbers_cmp a b = ordering_then (nat_cmp a.0 b.0) (nat_cmp a.1 b.1)

equal_numbers : (a b : ℕ) → is_eq (nat_cmp a b) ≡ eqb a b
equal_numbers a b =
    elim (cases_order a b) [
      | inl same ↦ rw (le-ltb a b (omega (arith, same)), eq-eqb a b same) refl
      | inr apart ↦ elim apart [
        | inl less ↦ rw (lt-ltb a b less, ne_eqb a b (λ same. omega (arith, same, less))) refl
        | inr more ↦ rw (le-ltb a b (omega (arith, more)), ne_eqb a b (λ same. omega (arith, same, more))) refl
      ]
    ]

equal_both : (a b : Ordering) → is_eq (ordering_then a b) ≡ (is_eq a && is_eq b)
equal_both Less b = refl
equal_both Equal b = refl
equal_both Greater b = refl

-- numbers compare equal exactly where they are those of the same id
pub equal-is_tid : (first second : ℕ × ℕ) → is_eq (numbers_cmp first second) ≡ is_tid (tid_of first) (tid_of second)
equal-is_tid first second =
    equal_both (nat_cmp first.0 second.0) (nat_cmp first.1 second.1)
    ∙ ap (λ b. b && is_eq (nat_cmp first.1 second.1)) (equal_numbers first.0 second.0)
    ∙ ap (λ b. eqb first.0 second.0 && b) (equal_numbers first.1 second.1)

-- an id is among those of some numbers exactly where its own numbers are found
pub found-is_listed : (asked : ℕ × ℕ) (keys : List (ℕ × ℕ)) → list_any (is_at (numbers_cmp asked)) keys ≡ is_listed (tid_of asked) (map tid_of keys)
found-is_listed asked [] = refl
found-is_listed asked (key ∷ keys) =
    ap (λ b. b || list_any (is_at (numbers_cmp asked)) keys) (equal-is_tid asked key ∙ is_tid-turned (tid_of asked) (tid_of key))
    ∙ ap (λ b. is_tid (tid_of key) (tid_of asked) || b) (found-is_listed asked keys)

pub entered : (b r : Bool) → cond b true r ≡ (b || r)
entered true r = refl
entered false r = refl

pub forgotten : (b r : Bool) → cond b false r ≡ (not b && r)
forgotten true r = refl
forgotten false r = refl
