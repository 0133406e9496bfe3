-- Why each system is down, behind an append and behind a fall.
use Rattle.std.specs.Prelude.{Result, Ok, Err}
use Rattle.std.proofs.Common.{◌≡◌, ◌≢◌, ℕ, zero, suc, ◌-◌, ◌<◌, ◌≤◌, true, false, Option, Some, None, List, [], ◌∷◌, ◌++◌, length, inl, inr, refl, sym, ap, subst, ◌∙◌, arith}
use Rattle.std.proofs.lemmas.Bool.{cases_lt}
use Rattle.std.proofs.lemmas.List.{get_or-replicate, get_or_past, get_or-set_same, get_or-set_other, length-set}
use Rattle.std.proofs.lemmas.Option.{same_Some}
use Rattle.ale_base.proofs.ListLemmas.{slice_get_push}
use Rattle.unit_core.specs.declared.records.Record.{Record}
use Rattle.trfc_protocol.specs.declared.world.World.{World}
use Rattle.trfc_protocol.specs.declared.world.SystemState.{SystemState}
use Rattle.trfc_protocol.specs.declared.event.Event.{Event}
use Rattle.trfc_protocol.specs.declared.event.Event.TheVariants.{Fall, Open}
use Rattle.trfc_protocol.specs.Meaning.{Meaning}
use Rattle.trfc_protocol.specs.RecordOf.{Writing, record_of}
use Rattle.trfc_protocol.specs.Start.{first_state}
use Rattle.trfc_protocol.specs.Worlds.{state_of, is_up, state_with, state_down, with_state, with_record, with_fall, one_fall_more}
use Rattle.trfc_protocol.proofs.WorldLemmas.{at_each_state}
use Rattle.unit_landscape.specs.declared.append_end.AppendEnd.{AppendEnd}
use Rattle.unit_landscape.specs.declared.append_end.AppendEnd.TheVariants.{Volume, Full, Before, After}
use Rattle.unit_landscape.specs.declared.cause.Cause.{Cause}
use Rattle.unit_landscape.specs.declared.cause.Cause.TheVariants.{Up, Faulted, Short}
use Rattle.unit_landscape.specs.declared.world_tables.WorldTables.{WorldTables}
use Rattle.unit_journal.specs.declared.journals.SystemJournals.{SystemJournals}
use Rattle.unit_landscape.specs.Causes.{no_causes, with_cause, cause_in, is_of_up, AreCausesOf, told_by, causes_after}
use Rattle.unit_landscape.specs.KeptWorlds.{KeptOf, kept_of}
use Rattle.unit_landscape.specs.AppendEnds.{AppendedAs, UnchangedAs}
use Rattle.unit_landscape.proofs.InStepLemmas.{stands_up}
use Rattle.unit_landscape.proofs.OnVolumesLemmas.{named_systems, up-written}

-- at first each system is up
no_cause-in : (system : ℕ) → cause_in no_causes system ≡ Up
no_cause-in system =
    elim (cases_lt (system - 1) 16) [
      | inl inside ↦ get_or-replicate 16 (system - 1) Up Up inside
      | inr past ↦ get_or_past no_causes (system - 1) Up past
    ]

-- one system more that is up leaves all up
pub causes-opened : (systems : List SystemState) (log : List Record) → AreCausesOf systems no_causes
    → AreCausesOf (systems ++ first_state log ∷ []) no_causes
causes-opened systems log are = record { sixteen = are.sixteen; each = each }
  where
    each : (system : ℕ) (state : SystemState) → state_of (systems ++ first_state log ∷ []) system ≡ Some state
        → is_of_up (cause_in no_causes system) ≡ state.up
    each zero state known = cc
    each (suc place) state known =
        elim (slice_get_push systems (first_state log) place state known) [
          | inl before ↦ are.each (suc place) state before
          | inr last ↦ ap is_of_up (no_cause-in (suc place)) ∙ ap (λ (s : SystemState). s.up) last.1
        ]

-- a system that is known has a number
known-least : (systems : List SystemState) (system : ℕ) (state : SystemState) → state_of systems system ≡ Some state → 1 ≤ system
known-least systems zero state known = cc
known-least systems (suc place) state known = omega arith

-- what is told of one system is found at its place
pub cause-told : (systems : List SystemState) (system : ℕ) (cause : Cause) (causes : List Cause) → AreCausesOf systems causes → system ≤ 16
    → cause_in (with_cause causes system cause) system ≡ cause
cause-told systems system cause causes are most =
    let inside : system - 1 < length causes = let all = are.sixteen in omega arith in
    get_or-set_same causes (system - 1) cause Up inside

-- a system has another state, and a cause that goes with it
pub causes-known : {R : Type 0} (world : World R) (system : ℕ) (causes : List Cause) (state : SystemState) → state_of world.systems system ≡ Some state
    → AreCausesOf world.systems causes → system ≤ 16 → (change : SystemState → SystemState) (cause : Cause) → is_of_up cause ≡ (change state).up
    → AreCausesOf (with_state world system change).systems (with_cause causes system cause)
causes-known world system causes state known are most change cause goes = record {
  sixteen = length-set causes (system - 1) cause ∙ are.sixteen;
  each = at_each_state world system change state known
      (λ number found. (s : SystemState) → found ≡ Some s → is_of_up (cause_in (with_cause causes system cause) number) ≡ s.up)
      (λ s is. ap is_of_up (cause-told world.systems system cause causes are most) ∙ goes
      ∙ ap (λ (x : SystemState). x.up) (same_Some (change state) s is))
      (λ other differs s is.
      let least = known-least world.systems other s is in
      let apart : other - 1 ≢ system - 1 = λ same. differs (let one = known-least world.systems system state known in omega arith) in
      ap is_of_up (get_or-set_other causes (system - 1) (other - 1) cause Up apart) ∙ are.each other s is);
}

module _ {R : Type 0} (world : World R) (system : ℕ) (causes : List Cause) (up : is_up world system ≡ true) (are : AreCausesOf world.systems causes) where
  -- so it is of a system that was up
  causes-set : system ≤ 16 → (change : SystemState → SystemState) (cause : Cause) → ((state : SystemState) → is_of_up cause ≡ (change state).up)
      → AreCausesOf (with_state world system change).systems (with_cause causes system cause)
  causes-set most change cause goes =
      let standing = stands_up world.systems system up in
      causes-known world system causes standing.state standing.known are most change cause (goes standing.state)

  -- a record was written
  causes-written : (next : Record) → AreCausesOf (with_record world system next).systems causes
  causes-written next =
      let standing = stands_up world.systems system up in
      record {
        sixteen = are.sixteen;
        each = at_each_state world system (state_with next) standing.state standing.known
            (λ number found. (state : SystemState) → found ≡ Some state → is_of_up (cause_in causes number) ≡ state.up)
            (λ state is. are.each system standing.state standing.known ∙ ap (λ (s : SystemState). s.up) (same_Some (state_with next standing.state) state is))
            (λ other differs state known. are.each other state known);
      }

-- a system fell by this cause
pub causes-fell : {R : Type 0} (world : World R) (system : ℕ) (rest : Option Record) (cause : Cause) (causes : List Cause) → is_up world system ≡ true
    → system ≤ 16 → is_of_up cause ≡ false
    → AreCausesOf world.systems causes → AreCausesOf (with_fall world system rest).systems (with_cause causes system cause)
causes-fell {R} world system rest cause causes up most down are =
    let without : World R = record world { claims = []; falls = one_fall_more world.falls } in
    causes-set without system causes up are most (state_down rest) cause (λ state. down)

-- so do the causes go with the systems behind an append
pub causes-appended : {R T : Type 0} (world after : World R) (system : ℕ) (next : Record) (claim : Option ℕ) (causes : List Cause) (result : Result T AppendEnd)
    → is_up world system ≡ true → system ≤ 16 → AppendedAs world after system next claim result
    → AreCausesOf world.systems causes → AreCausesOf after.systems (told_by causes system result)
causes-appended {R} world then system next claim causes (Ok done) up most did are =
    subst (λ systems. AreCausesOf systems causes) (sym (ap (λ (w : World R). w.systems) did ∙ named_systems (with_record world system next) claim))
    (causes-written world system causes up are next)
causes-appended {R} world then system next claim causes (Err Volume) up most did are =
    subst (λ (w : World R). AreCausesOf w.systems (with_cause causes system Faulted)) (sym did)
    (causes-fell world system (Some next) Faulted causes up most refl are)
causes-appended {R} world then system next claim causes (Err (Full size)) up most did are = subst (λ (w : World R). AreCausesOf w.systems causes) (sym did) are
causes-appended {R} world then system next claim causes (Err Before) up most did are = subst (λ (w : World R). AreCausesOf w.systems causes) (sym did) are
causes-appended {R} world then system next claim causes (Err After) up most did are =
    subst (λ (w : World R). AreCausesOf w.systems (with_cause causes system Short)) (sym did)
    (causes-fell (with_record world system next) system None Short causes (up-written world system next up) most refl
    (causes-written world system causes up are next))

-- what an append left unchanged stays with the causes that it tells
pub unchanged-told : {R A E V T : Type 0} (before after : WorldTables R A E) (held noted : SystemJournals) (old new : V) (causes : List Cause) (system : ℕ)
    (result : Result T AppendEnd) → UnchangedAs (kept_of before held old) (kept_of after noted new) result
    → UnchangedAs (record (kept_of before held old) { causes = causes }) (record (kept_of after noted new) { causes = told_by causes system result }) result
unchanged-told before then held noted old new causes system (Ok done) same = tt
unchanged-told before then held noted old new causes system (Err Volume) same = tt
unchanged-told {R} {A} {E} {V} before then held noted old new causes system (Err (Full size)) same =
    ap (λ (k : KeptOf R A V). let now : KeptOf R A V = record k { causes = causes } in now) same
unchanged-told before then held noted old new causes system (Err Before) same = same
unchanged-told before then held noted old new causes system (Err After) same = tt

-- an event that appends a record changes no cause
pub causes-appending : {R : Type 0} (rules : Meaning) (world : World R) (e : Event) (it : Writing) (causes : List Cause) → record_of rules world e ≡ Some it
    → causes_after e causes ≡ causes
causes-appending rules world (Fall system kept) it causes writes = cc
causes-appending rules world (Open system) it causes writes = cc
causes-appending rules world e it causes writes = refl
