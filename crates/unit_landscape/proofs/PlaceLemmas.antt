-- The unit of an id stands at the place that its number tells.
use Rattle.std.specs.Prelude.{slice_get, slice_index_or, Contains, if◌then◌else◌}
use Rattle.std.proofs.Common.{◌≡◌, false, cond, ℕ, suc, ◌+◌, ◌-◌, ◌<◌, ◌≤◌, ◌==◌, Option, Some, None, List, [], length, inl, inr, refl, sym, ap, subst, ◌∙◌}
use Rattle.std.proofs.Common.{arith}
use Rattle.std.proofs.lemmas.Bool.{ne_eqb}
use Rattle.std.proofs.lemmas.Option.{slice_get_within, get_or_from_slice_get, slice_get-get_or, none-some}
use Rattle.ale_base.specs.Tid.{TidOf}
use Rattle.ale_base.proofs.OptionLemmas.{none_or_some}
use Rattle.ale_base.proofs.ListLemmas.{slice_get-within}
use Rattle.unit_core.specs.declared.ale_unit.AleUnit.{AleUnit}
use Rattle.unit_core.specs.declared.records.Record.{Record}
use Rattle.unit_core.specs.Queues.{unit_named}
use Rattle.unit_core.proofs.TidLemmas.{unit_named-Some, unit_named-Contains}
use Rattle.trfc_protocol.specs.declared.world.World.{World}
use Rattle.trfc_protocol.specs.Meaning.{Meaning}
use Rattle.trfc_protocol.specs.Legal.{IsLegal, IsUnitAt, IsLawful}
use Rattle.trfc_protocol.specs.Worlds.{log_of, log_or_none, committed_unit}
use Rattle.trfc_protocol.proofs.LegalLemmas.{committed-NoneTwice}
use Rattle.system_tables.specs.Tables.{TablesOf, unit_numbered}
use Rattle.unit_landscape.specs.InStep.{AreInStep}

module _ (rules : Meaning) (lawful : IsLawful rules) (system : ℕ) (log : List Record) (legal : IsLegal rules system log) where
  at-place : (k : ℕ) (unit : AleUnit) → slice_get (rules.committed system log) k ≡ Some unit →
      IsUnitAt rules.systems system k unit × Contains (rules.committed system log) unit
  at-place k unit got =
      let within = slice_get_within (rules.committed system log) k unit got in
      let is = get_or_from_slice_get (rules.committed system log) k unit unit got in
      (subst (IsUnitAt rules.systems system k) is (lawful.numbered system log legal k unit within), (k, within, is))

  -- the unit of an id of this system stands at the place that its number tells
  pub named-at : (tid : TidOf) → tid.system ≡ system → 1 ≤ tid.unit →
      unit_named tid (rules.committed system log) ≡ slice_get (rules.committed system log) (tid.unit - 1)
  named-at tid home least =
      elim (none_or_some (slice_get (rules.committed system log) (tid.unit - 1))) [
        | inr got ↦
            let at = at-place (tid.unit - 1) got.0 got.1 in
            let number : tid.unit - 1 + 1 ≡ tid.unit = omega arith in
            let its : got.0.tid ≡ tid = at.0.tid ∙ (let back : system ≡ tid.system = sym home in λ i. record { system = back i; unit = number i }) in
            subst (λ t. unit_named t (rules.committed system log) ≡ Some got.0) its
            (unit_named-Contains (rules.committed system log) got.0 (committed-NoneTwice rules lawful system log legal) at.1) ∙ sym got.1
        | inl past ↦ (elim (none_or_some (unit_named tid (rules.committed system log))) [
          | inl none ↦ none ∙ sym past
          | inr found ↦
              let is = unit_named-Some tid (rules.committed system log) found.0 found.1 in
              let at = lawful.numbered system log legal (is.0).0 found.0 (is.0).1 in
              let place : tid.unit ≡ is.0.0 + 1 = ap (λ (t : TidOf). t.unit) (sym is.1 ∙ sym (ap (λ (u : AleUnit). u.tid) is.0.2) ∙ at.tid) in
              let here : tid.unit - 1 ≡ is.0.0 = omega arith in
              let got = slice_get-get_or (rules.committed system log) (is.0).0 found.0 (is.0).1 in
              absurd (none-some (slice_index_or (rules.committed system log) (is.0).0 found.0)
              (sym (subst (λ k. slice_get (rules.committed system log) k ≡ None) here past) ∙ got))
        ])
      ]

from_one : {A : Type 0} (n : ℕ) (found : Option A) → 1 ≤ n → (if n == 0 then None else found) ≡ found
from_one n found least = let other : (n == 0) ≡ false = ne_eqb n 0 (λ same. omega arith) in ap (λ b. cond b None found) other

module _ {R A : Type 0} (stands : A → List Record → Type 0) (rules : Meaning) (lawful : IsLawful rules) (world : World R) (tables : List (TablesOf A))
    (are : AreInStep stands rules world.systems world.claims tables) (tid : TidOf) (least : 1 ≤ tid.system) where
  number : tid.system ≡ suc (tid.system - 1)
  number = omega arith

  log_at : log_of world tid.system ≡ log_or_none (slice_get world.systems (tid.system - 1))
  log_at = ap (log_of world) number

  -- the table of its sender has the unit of an id at the place of its number
  pub unit-there : (its : TablesOf A) → IsLegal rules tid.system (log_of world tid.system) → 1 ≤ tid.unit → slice_get tables (tid.system - 1) ≡ Some its
      → unit_numbered tid.unit its.units ≡ committed_unit rules world tid
  unit-there its legal least_unit got =
      let place = tid.system - 1 in
      let inside : place < length world.systems = let w = slice_get_within tables place its got in let all = are.all in omega arith in
      let state = slice_get-within world.systems place inside in
      let log : log_of world tid.system ≡ (state.0).log = log_at ∙ ap log_or_none state.1 in
      let units : its.units ≡ rules.committed tid.system (log_of world tid.system) =
      (are.each place state.0 its state.1 got).units ∙ ap (λ s. rules.committed s (state.0).log) (sym number) ∙ ap (rules.committed tid.system) (sym log) in
      from_one tid.unit (slice_get its.units (tid.unit - 1)) least_unit
      ∙ ap (λ us. slice_get us (tid.unit - 1)) units
      ∙ sym (named-at rules lawful tid.system (log_of world tid.system) legal tid refl least_unit)

  -- a system that the landscape does not have committed none
  pub unit-nowhere : slice_get tables (tid.system - 1) ≡ None → None ≡ committed_unit rules world tid
  unit-nowhere past =
      let place = tid.system - 1 in
      elim (none_or_some (slice_get world.systems place)) [
        | inl none ↦
            let log : log_of world tid.system ≡ [] = log_at ∙ ap log_or_none none in
            sym (ap (λ l. unit_named tid (rules.committed tid.system l)) log ∙ ap (unit_named tid) (lawful.nothing_at_first tid.system))
        | inr is ↦
            let inside : place < length tables = let w = slice_get_within world.systems place is.0 is.1 in let all = are.all in omega arith in
            let its = slice_get-within tables place inside in
            absurd (none-some its.0 (sym past ∙ its.1))
      ]
