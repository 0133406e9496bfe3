-- A log has one first bad record at most, and none where each record is good.
use Rattle.std.specs.Prelude.{slice_get}
use Rattle.std.proofs.Common.{◌≡◌, ℕ, ◌+◌, ◌<◌, Option, List, length, take, inl, inr, refl, sym, ap, subst, ◌∙◌, arith}
use Rattle.std.proofs.lemmas.Bool.{both_ways, cases_lt}
use Rattle.std.proofs.lemmas.Option.{same_Some, slice_get_within}
use Rattle.ale_base.proofs.ListLemmas.{slice_get-take}
use Rattle.unit_core.specs.declared.records.Record.{Record}
use Rattle.unit_core.specs.declared.records.Record.TheVariants.{Genesis}
use Rattle.trfc_protocol.specs.Meaning.{Meaning}
use Rattle.trfc_protocol.specs.Legal.{may_follow}
use Rattle.log_reading.specs.declared.bad.Cause.{Cause}
use Rattle.log_reading.specs.declared.bad.Cause.TheVariants.{System, Model, Illegal}
use Rattle.log_reading.specs.declared.bad.BadRecord.{BadRecord}
use Rattle.log_reading.specs.Bad.{DifferAt, IsGood, IsBadBy, IsMismatch, Matches, moment_at, moment_before}
use Rattle.log_reading.specs.Reading.{AreGoodTo, IsFirstBad}

-- a record that matches is no mismatch
matches-or_not : (system : ℕ) (text : List ℕ) (next : Record) (cause : Cause) → Matches system text next → IsMismatch system text next cause → ⊥
matches-or_not system text (Genesis its_system its_text) (System kept expected) matches bad = bad.0 matches.0
matches-or_not system text (Genesis its_system its_text) (Model place) matches bad = bad.1.here (ap (λ (t : List ℕ). slice_get t place) matches.1)
matches-or_not system text (Genesis its_system its_text) Illegal matches bad = bad
matches-or_not system text next cause matches bad = bad

-- a record that is good is not bad
pub good-or_bad : (rules : Meaning) (system : ℕ) (text : List ℕ) (before moment : Option ℕ) (log : List Record) (next : Record) (cause : Cause)
    → IsGood rules system text before moment log next → IsBadBy rules system text before moment log next cause → ⊥
good-or_bad rules system text before moment log next Illegal good bad = elim bad.1 [
  | inl late ↦ late good.in_time
  | inr refused ↦ both_ways (may_follow rules system log next) refused good.legal
]
good-or_bad rules system text before moment log next (System kept expected) good bad = matches-or_not system text next (System kept expected) good.matches bad
good-or_bad rules system text before moment log next (Model place) good bad = matches-or_not system text next (Model place) good.matches bad

-- a log of which each record is good has no first bad one
pub good-no_bad : (rules : Meaning) (system : ℕ) (text : List ℕ) (moments : List (Option ℕ)) (log : List Record) (bad : BadRecord)
    → AreGoodTo rules system text moments log (length log) → IsFirstBad rules system text moments log bad → ⊥
good-no_bad rules system text moments log bad good is =
    good-or_bad rules system text _ _ (take is.place log) is.next bad.cause
    (good is.place is.next (slice_get_within log is.place is.next is.stands) is.stands) is.is

-- two texts differ first at one place
one_place : (one other : List ℕ) (p q : ℕ) → DifferAt one other p → DifferAt one other q → p < q → ⊥
one_place one other p q first second less =
    first.here (sym (slice_get-take one q p less) ∙ ap (λ (t : List ℕ). slice_get t p) second.before ∙ slice_get-take other q p less)

-- a record is bad by one cause
one_cause : (rules : Meaning) (system : ℕ) (text : List ℕ) (before moment : Option ℕ) (log : List Record) (next : Record) (a b : Cause)
    → IsBadBy rules system text before moment log next a → IsBadBy rules system text before moment log next b → a ≡ b
one_cause rules system text before moment log next Illegal Illegal one other = refl
one_cause rules system text before moment log next Illegal (System kept expected) one other =
    absurd (matches-or_not system text next (System kept expected) one.0 other)
one_cause rules system text before moment log next Illegal (Model place) one other = absurd (matches-or_not system text next (Model place) one.0 other)
one_cause rules system text before moment log next (System kept expected) Illegal one other =
    absurd (matches-or_not system text next (System kept expected) other.0 one)
one_cause rules system text before moment log next (Model place) Illegal one other = absurd (matches-or_not system text next (Model place) other.0 one)
one_cause rules system text before moment log (Genesis its_system its_text) (System k e) (System l f) one other =
    let kept : k ≡ l = one.1 ∙ sym other.1 in
    let expected : e ≡ f = one.2 ∙ sym other.2 in
    λ i. System (kept i) (expected i)
one_cause rules system text before moment log (Genesis its_system its_text) (System k e) (Model p) one other = absurd (one.0 other.0)
one_cause rules system text before moment log (Genesis its_system its_text) (Model p) (System k e) one other = absurd (other.0 one.0)
one_cause rules system text before moment log (Genesis its_system its_text) (Model p) (Model q) one other =
    elim (cases_lt p q) [
      | inl less ↦ absurd (one_place its_text text p q one.1 other.1 less)
      | inr more ↦ elim (cases_lt q p) [
        | inl less ↦ absurd (one_place its_text text q p other.1 one.1 less)
        | inr same ↦ ap Model (omega (arith, more, same))
      ]
    ]
one_cause rules system text before moment log next (System k e) b one other = absurd one
one_cause rules system text before moment log next (Model p) b one other = absurd one

-- a log has one first bad record at most
pub one_first : (rules : Meaning) (system : ℕ) (text : List ℕ) (moments : List (Option ℕ)) (log : List Record) (a b : BadRecord)
    → IsFirstBad rules system text moments log a → IsFirstBad rules system text moments log b → a ≡ b
one_first rules system text moments log a b one other = elim (cases_lt one.place other.place) [
  | inl less ↦ absurd (good-or_bad rules system text _ _ (take one.place log) one.next a.cause (other.before one.place one.next less one.stands) one.is)
  | inr more ↦ elim (cases_lt other.place one.place) [
    | inl less ↦ absurd (good-or_bad rules system text _ _ (take other.place log) other.next b.cause (one.before other.place other.next less other.stands) other.is)
    | inr least ↦
        let same : one.place ≡ other.place = omega (arith, more, least) in
        let next : one.next ≡ other.next = same_Some one.next other.next (sym one.stands ∙ ap (slice_get log) same ∙ other.stands) in
        let there = subst (λ (n : Record). IsBadBy rules system text (moment_before moments other.place) (moment_at moments other.place) (take other.place log) n a.cause) next
        (subst (λ (p : ℕ). IsBadBy rules system text (moment_before moments p) (moment_at moments p) (take p log) one.next a.cause) same one.is) in
        let cause : a.cause ≡ b.cause = one_cause rules system text _ _ (take other.place log) other.next a.cause b.cause there other.is in
        let number : a.number ≡ b.number = one.number ∙ ap (λ n. n + 1) same ∙ sym other.number in
        λ i. record { number = number i; cause = cause i }
  ]
]
