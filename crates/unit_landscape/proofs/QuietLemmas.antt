-- Nothing is left to do exactly where no table of a system that is up has anything.
use Rattle.std.specs.Prelude.{◌↔◌, Contains, slice_get}
use Rattle.std.specs.List.{list_all}
use Rattle.std.proofs.Common.{◌≡◌, ℕ, ◌+◌, ◌-◌, ◌≤◌, ◌==◌, Bool, true, false, not, cond, ◌&&◌, Option, Some, None, inl, inr, List, [], ◌∷◌, map, refl, sym, ap}
use Rattle.std.proofs.Common.{subst, ◌∙◌, arith}
use Rattle.std.proofs.lemmas.Bool.{cases_Bool, cases_lt, and_from, and_parts, and_right, not-true, not_from_false, ne_eqb}
use Rattle.ale_base.specs.Tid.{TidOf}
use Rattle.ale_base.proofs.MemberLemmas.{Contains-here, Contains-there, Contains-map, Contains-map_back, list_all-Contains}
use Rattle.unit_core.specs.declared.ale_unit.AleUnit.{AleUnit}
use Rattle.unit_core.specs.declared.records.Record.{Record}
use Rattle.unit_core.specs.Filters.{received, done_in, ended_in}
use Rattle.unit_core.specs.Queues.{is_listed, unit_named}
use Rattle.unit_core.proofs.TidLemmas.{is_listed-Contains, Contains-is_listed, unit_named-Contains}
use Rattle.tid_table.specs.Numbers.{tid_of}
use Rattle.system_tables.specs.Tables.{TablesOf, unit_numbered}
use Rattle.system_tables.specs.OfLog.{is_unconfirmed}
use Rattle.trfc_protocol.specs.declared.world.World.{World}
use Rattle.trfc_protocol.specs.Meaning.{Meaning}
use Rattle.trfc_protocol.specs.Legal.{is_free_outbound, is_free_inbound, IsLawful}
use Rattle.trfc_protocol.specs.Worlds.{log_of, is_up, committed_by, committed_unit, is_claimed}
use Rattle.trfc_protocol.specs.Offered.{is_stopped_outbound, is_stopped_inbound, may_move, is_offered_outbound, is_offered_inbound}
use Rattle.trfc_protocol.specs.Safe.{Safe}
use Rattle.trfc_protocol.specs.declared.held.HeldKind.TheVariants.{Out, In}
use Rattle.trfc_protocol.proofs.WorldLemmas.{is_up-known, state_of-most}
use Rattle.trfc_protocol.proofs.SafeLemmas.{sound_now, numbered, committed_place, committed_unit-is}
use Rattle.trfc_protocol.proofs.ForCallers.{done_unit}
use Rattle.unit_landscape.specs.LogAnswers.{AreTablesNow}
use Rattle.unit_landscape.proofs.AnswersLemmas.{unconfirmed-at}
use Rattle.unit_landscape.proofs.PlaceLemmas.{named-at}
use Rattle.unit_landscape.specs.Quiet.{IsQuiet, AreConfirmed, IsQuietAt, receiver_up, none_up}

list_all-from : {X : Type 0} (p : X → Bool) (xs : List X) → ((x : X) → Contains xs x → p x ≡ true) → list_all p xs ≡ true
list_all-from p [] each = refl
list_all-from p (x ∷ xs) each =
    and_from (p x) (list_all p xs) (each x (Contains-here x xs)) (list_all-from p xs (λ y has. each y (Contains-there x xs y has)))

from_one : {A : Type 0} (n : ℕ) (found : Option A) → 1 ≤ n → cond (n == 0) None found ≡ found
from_one n found least = ap (λ b. cond b None found) (ne_eqb n 0 (λ same. omega arith))

module _ {R A : Type 0} (stands : A → List Record → Type 0) (rules : Meaning) (lawful : IsLawful rules) (world : World R) (safe : Safe rules world)
    (system : ℕ) (up : is_up world system ≡ true) (its : TablesOf A) (are : AreTablesNow stands rules world system its) where
  -- the unit of an id of the system is found by its number
  found-numbered : (tid : TidOf) (unit : AleUnit) → tid.system ≡ system → committed_unit rules world tid ≡ Some unit
      → unit_numbered tid.unit its.units ≡ Some unit
  found-numbered tid unit home named =
      let is = committed_unit-is rules lawful world safe tid unit named in
      let at = (committed_place rules lawful world safe tid.system unit is.0).1 in
      let least : 1 ≤ tid.unit = let place = ap (λ (t : TidOf). t.unit) (sym is.1 ∙ at.tid) in omega arith in
      from_one tid.unit (slice_get its.units (tid.unit - 1)) least
      ∙ ap (λ units. slice_get units (tid.unit - 1)) (are.units ∙ ap (committed_by rules world) (sym home))
      ∙ sym (named-at rules lawful tid.system (log_of world tid.system) ((sound_now rules lawful world safe).legal tid.system) tid refl least)
      ∙ named

  -- an id that is unconfirmed is that of a unit of the system
  unit-of : (tid : TidOf) → is_unconfirmed tid (log_of world system) ≡ true
      → (unit : AleUnit) × (tid.system ≡ system) × (committed_unit rules world tid ≡ Some unit)
  unit-of tid open_ =
      let done = (and_parts (is_listed tid (done_in (log_of world system))) (not (is_listed tid (ended_in (log_of world system)))) open_).0 in
      let was = done_unit rules lawful world safe system tid done in
      let at = (committed_place rules lawful world safe system was.0 was.2).1 in
      let home : tid.system ≡ system = ap (λ (t : TidOf). t.system) (sym was.1 ∙ at.tid) in
      let named : unit_named tid (committed_by rules world system) ≡ Some was.0 =
      subst (λ t. unit_named t (committed_by rules world system) ≡ Some was.0) was.1
      (unit_named-Contains (committed_by rules world system) was.0 (numbered rules lawful world safe system) was.2) in
      (was.0, home, ap (λ s. unit_named tid (committed_by rules world s)) home ∙ named)

  module _ (numbers : List (ℕ × ℕ)) (all : map tid_of numbers ≡ its.unconfirmed) where
    -- where none of their receivers is up, none has both its systems up
    confirmed-none : none_up world its.units numbers ≡ true → AreConfirmed rules world system
    confirmed-none none tid unit home named open_ =
        let here : is_unconfirmed tid (log_of world system) ≡ true = ap (λ s. is_unconfirmed tid (log_of world s)) (sym home) ∙ open_ in
        let has : Contains (map tid_of numbers) tid =
        Contains-is_listed tid (map tid_of numbers) (ap (is_listed tid) all ∙ unconfirmed-at stands rules world system its are tid ∙ here) in
        let key = Contains-map_back tid_of numbers tid has in
        let off = list_all-Contains (λ (of_one : ℕ × ℕ). not (receiver_up world (unit_numbered of_one.1 its.units))) numbers key.0 none key.1 in
        let found : unit_numbered key.0.1 its.units ≡ Some unit =
        ap (λ (t : TidOf). unit_numbered t.unit its.units) key.2 ∙ found-numbered tid unit home named in
        and_right (is_up world tid.system) (is_up world unit.receiver)
        (sym (ap (receiver_up world) found) ∙ not-true (receiver_up world (unit_numbered key.0.1 its.units)) off)

    -- and the other way round
    none-confirmed : AreConfirmed rules world system → none_up world its.units numbers ≡ true
    none-confirmed confirmed =
        list_all-from (λ (of_one : ℕ × ℕ). not (receiver_up world (unit_numbered of_one.1 its.units))) numbers (λ key has.
        let tid : TidOf = tid_of key in
        let listed = is_listed-Contains tid (map tid_of numbers) (Contains-map tid_of numbers key has) in
        let open_ : is_unconfirmed tid (log_of world system) ≡ true =
        sym (unconfirmed-at stands rules world system its are tid) ∙ ap (is_listed tid) (sym all) ∙ listed in
        let is = unit-of tid open_ in
        let off = confirmed tid is.0 is.1 is.2 (ap (λ s. is_unconfirmed tid (log_of world s)) is.1 ∙ open_) in
        let down : is_up world (is.0).receiver ≡ false =
        sym (ap (λ b. b && is_up world (is.0).receiver) (ap (is_up world) is.1 ∙ up)) ∙ off in
        not_from_false (receiver_up world (unit_numbered tid.unit its.units)) (ap (receiver_up world) (found-numbered tid is.0 is.1 is.2) ∙ down))

    -- so it is told
    pub confirmed-told : (result : Bool) → result ≡ none_up world its.units numbers → (result ≡ true) ↔ AreConfirmed rules world system
    confirmed-told result is = (λ told. confirmed-none (sym is ∙ told), λ confirmed. is ∙ none-confirmed confirmed)

-- ---- of one system, and of all

module _ {R : Type 0} (rules : Meaning) (world : World R) where
  -- nothing is offered outbound by a system that is down
  down-outbound : (tid : TidOf) → is_up world tid.system ≡ false → is_offered_outbound rules world tid ≡ false
  down-outbound tid down =
      ap (λ up. up && is_free_outbound (committed_by rules world tid.system) (log_of world tid.system) tid && not (is_claimed Out tid world.claims)
      && may_move (is_stopped_outbound (log_of world tid.system)) (committed_unit rules world tid)) down

  -- nor inbound
  down-inbound : (system : ℕ) (tid : TidOf) → is_up world system ≡ false → is_offered_inbound world system tid ≡ false
  down-inbound system tid down =
      ap (λ up. up && is_free_inbound (log_of world system) tid && not (is_claimed In tid world.claims)
      && may_move (is_stopped_inbound (log_of world system)) (unit_named tid (received (log_of world system)))) down

  -- a system that is down has nothing to do
  quiet-down : (system : ℕ) → is_up world system ≡ false → IsQuietAt rules world system
  quiet-down system down = record {
    outbound = λ tid home. down-outbound tid (ap (is_up world) home ∙ down);
    inbound = λ tid. down-inbound system tid down;
    confirmed = λ tid unit home named open_. ap (λ up. up && is_up world unit.receiver) (ap (is_up world) home ∙ down);
  }

  -- the first systems have nothing to do
  abbrev pub AreQuietTo : ℕ → Type 0
  AreQuietTo number = (system : ℕ) → system ≤ number → IsQuietAt rules world system

  -- one system more
  pub quiet-more : (number system : ℕ) → system ≡ number + 1 → AreQuietTo number → IsQuietAt rules world system → AreQuietTo (number + 1)
  quiet-more number system next before here other most =
      elim (cases_lt number other) [
        | inl last ↦ let same : other ≡ system = omega arith in subst (IsQuietAt rules world) (sym same) here
        | inr within ↦ before other within
      ]

  -- where none of the systems has there is nothing
  pub quiet-told : Safe rules world → (number : ℕ) → number ≡ rules.systems → AreQuietTo number → (true ≡ true) ↔ IsQuiet rules world
  quiet-told safe number all quiet = (λ told. nothing, λ told. refl)
    where
      at : (system : ℕ) → IsQuietAt rules world system
      at system =
          elim (cases_Bool (is_up world system)) [
            | inl up ↦
                let known = is_up-known world system up in
                let few = state_of-most world.systems system known.0 known.1 in
                quiet system (subst (λ n. system ≤ n) (safe.systems ∙ sym all) few)
            | inr down ↦ quiet-down system down
          ]

      nothing : IsQuiet rules world
      nothing = record {
        outbound = λ tid. (at tid.system).outbound tid refl;
        inbound = λ system. (at system).inbound;
        confirmed = λ tid unit. (at tid.system).confirmed tid unit refl;
      }
