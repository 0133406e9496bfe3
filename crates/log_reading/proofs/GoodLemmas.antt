-- The records of a log, one by one: what is good so far, and the first that is bad.
use Rattle.std.specs.Prelude.{slice_get}
use Rattle.std.proofs.Common.{◌≡◌, ℕ, suc, ◌+◌, ◌<◌, ◌≤◌, Option, Some, List, length, take, get_or, inl, inr, refl, sym, ap, subst, ◌∙◌, arith}
use Rattle.std.proofs.lemmas.Bool.{cases_eq}
use Rattle.std.proofs.lemmas.Option.{slice_get-get_or}
use Rattle.unit_core.specs.declared.records.Record.{Record}
use Rattle.trfc_protocol.specs.Meaning.{Meaning}
use Rattle.log_reading.specs.declared.bad.BadRecord.{BadRecord}
use Rattle.log_reading.specs.Bad.{IsBadBy, IsGood, moment_at, moment_before}
use Rattle.log_reading.specs.Reading.{AreGoodTo, IsFirstBad}

module _ (rules : Meaning) (system : ℕ) (text : List ℕ) (moments : List (Option ℕ)) (log : List Record) where
  -- at first nothing is looked at
  pub good-none : AreGoodTo rules system text moments log 0
  good-none place next within at = absurd (omega (arith, within))

  -- one record more is good
  pub good-more : (count : ℕ) (next : Record) → slice_get log count ≡ Some next → AreGoodTo rules system text moments log count
      → IsGood rules system text (moment_before moments count) (moment_at moments count) (take count log) next → AreGoodTo rules system text moments log (count + 1)
  good-more count next at before good place other within there =
      elim (cases_eq place count) [
        | inl same ↦
            let its : Some next ≡ Some other = sym at ∙ ap (slice_get log) (sym same) ∙ there in
            let it : next ≡ other = cc in
            subst (λ (p : ℕ). IsGood rules system text (moment_before moments p) (moment_at moments p) (take p log) other) (sym same)
            (subst (λ (r : Record). IsGood rules system text (moment_before moments count) (moment_at moments count) (take count log) r) it good)
        | inr differs ↦ before place other (omega (arith, within, differs)) there
      ]

  -- what holds of as many as there are holds of all
  pub good-all : (count : ℕ) → length log ≤ count → AreGoodTo rules system text moments log count → AreGoodTo rules system text moments log (length log)
  good-all count all good place next within at = good place next (omega (arith, all, within)) at

  -- the moment before the next place is that at this place
  pub moment-next : (place : ℕ) → moment_at moments place ≡ moment_before moments (place + 1)
  moment-next place =
      let moved : suc place ≡ place + 1 = omega arith in
      subst (λ (n : ℕ). moment_at moments place ≡ moment_before moments n) moved refl

  stands_at : (place : ℕ) (next : Record) → place < length log → next ≡ get_or log place next → slice_get log place ≡ Some next
  stands_at place next within at = slice_get-get_or log place next within ∙ ap Some (sym at)

  -- a record behind good ones is the first that is bad
  pub bad-here : (place : ℕ) (next : Record) (before : Option ℕ) (bad : BadRecord) → place < length log → next ≡ get_or log place next
      → AreGoodTo rules system text moments log place → before ≡ moment_before moments place → bad.number ≡ place + 1
      → IsBadBy rules system text before (moment_at moments place) (take place log) next bad.cause → IsFirstBad rules system text moments log bad
  bad-here place next before bad within at good same number is = record {
    place = place;
    number = number;
    next = next;
    stands = stands_at place next within at;
    before = good;
    is = subst (λ (m : Option ℕ). IsBadBy rules system text m (moment_at moments place) (take place log) next bad.cause) same is;
  }

  -- a record behind good ones is good
  pub good-here : (place : ℕ) (next : Record) (before : Option ℕ) → place < length log → next ≡ get_or log place next
      → AreGoodTo rules system text moments log place → before ≡ moment_before moments place
      → IsGood rules system text before (moment_at moments place) (take place log) next → AreGoodTo rules system text moments log (place + 1)
  good-here place next before within at good same is =
      good-more place next (stands_at place next within at) good
      (subst (λ (m : Option ℕ). IsGood rules system text m (moment_at moments place) (take place log) next) same is)
