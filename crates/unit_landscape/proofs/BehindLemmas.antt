-- The tables are in step with the logs, where a record is noted and where a system falls.
use Rattle.std.specs.Prelude.{slice_get, Result, Ok, Err, OnErr}
use Rattle.std.proofs.Common.{◌≡◌, ℕ, suc, ◌-◌, true, Option, Some, None, List, [], ◌∷◌, ◌++◌, refl, sym, ap, subst, ◌∙◌, arith}
use Rattle.std.proofs.lemmas.Option.{same_Some}
use Rattle.unit_core.specs.declared.ale_unit.AleUnit.{AleUnit}
use Rattle.unit_core.specs.declared.records.Record.{Record}
use Rattle.trfc_protocol.specs.declared.world.World.{World}
use Rattle.trfc_protocol.specs.declared.world.SystemState.{SystemState}
use Rattle.trfc_protocol.specs.declared.held.HeldKind.TheVariants.{Out, In}
use Rattle.trfc_protocol.specs.Meaning.{Meaning}
use Rattle.trfc_protocol.specs.Worlds.{log_of, log_or_none, is_up, last_of, state_with, state_down, with_state, with_record}
use Rattle.trfc_protocol.proofs.WorldLemmas.{kept-with_state}
use Rattle.system_tables.specs.Tables.{TablesOf, entered}
use Rattle.system_tables.specs.Noted.{Noted}
use Rattle.system_tables.specs.CanNote.{CanNote}
use Rattle.system_tables.specs.Joins.{Joins}
use Rattle.system_tables.proofs.TablesLemmas.{CanNote-joins}
use Rattle.unit_landscape.specs.declared.world_tables.WorldTables.{WorldTables}
use Rattle.unit_landscape.specs.Changed.{ChangedAt}
use Rattle.unit_landscape.specs.Claims.{claim_at}
use Rattle.unit_landscape.specs.InStep.{AreInStep, AreInStepWith}
use Rattle.unit_landscape.specs.Joining.{JoinsAt, claims_without, without_named}
use Rattle.unit_landscape.specs.Noting.{IsToNote}
use Rattle.unit_landscape.proofs.InStepLemmas.{ChangedAt-same, ChangedAt-then, StandsUp, stands_up, in_step-down}
use Rattle.unit_landscape.proofs.JoiningLemmas.{in_step-noted, in_step-fallen}
use Rattle.unit_landscape.proofs.EnteringLemmas.{last-entered, systems-changed}
use Rattle.unit_journal.specs.declared.journals.SystemJournals.{SystemJournals}
use Rattle.unit_landscape.specs.declared.append_end.AppendEnd.{AppendEnd}
use Rattle.unit_landscape.specs.declared.append_end.AppendEnd.TheVariants.{After}
use Rattle.unit_landscape.specs.AppendEnds.{IsBehind, FullAs}
use Rattle.unit_landscape.proofs.OnVolumesLemmas.{up-written}

-- a system that is up falls, with tables as they were
pub in_step-fell : {R A : Type 0} (stands : A → List Record → Type 0) (meaning : R → Meaning) (world : World R) (tables : List (TablesOf A)) (system : ℕ)
    (rest : Option Record) → is_up world system ≡ true → AreInStepWith stands meaning world tables
    → AreInStep stands (meaning world.rules) (with_state world system (state_down rest)).systems world.claims tables
in_step-fell stands meaning world tables system rest up are =
    in_step-down stands (meaning world.rules) world.systems (with_state world system (state_down rest)).systems world.claims tables tables (system - 1) rest are
    (systems-changed world system (state_down rest) up)
    (ChangedAt-same (λ old now. now.units ≡ old.units) (system - 1) tables (λ t. refl))

-- a claim that goes leaves all else
without_named-is : {R : Type 0} (world : World R) (claim : Option ℕ) → without_named world claim ≡ record world { claims = claims_without world.claims claim }
without_named-is world None = refl
without_named-is world (Some number) = refl

module _ {R A E Extra : Type 0} (meaning : R → Meaning) (stands : A → List Record → Type 0) (goes_with : A → List Record → Record → Extra → Type 0)
    (now : WorldTables R A E)
    (system : ℕ) (more : List AleUnit) (claim : Option ℕ) (extra : Extra) (is : IsBehind meaning stands goes_with now system more claim extra) where
  standing : StandsUp (is.world).systems system
  standing = stands_up (is.world).systems system is.up

  number : suc (system - 1) ≡ system
  number = let least = standing.least in omega arith

  joins_at : JoinsAt (meaning (is.world).rules) is.world (suc (system - 1)) is.next more claim
  joins_at = subst (λ n. JoinsAt (meaning (is.world).rules) is.world n is.next more claim) (sym number) is.joins

  known_log : (state : SystemState) → slice_get (is.world).systems (system - 1) ≡ Some state → log_of is.world (suc (system - 1)) ≡ state.log
  known_log state at = ap log_or_none at

  is_state : (state : SystemState) → slice_get (is.world).systems (system - 1) ≡ Some state → state.up ≡ true
  is_state state at = sym (ap (λ (s : SystemState). s.up) (same_Some standing.state state (sym standing.at ∙ at))) ∙ standing.up

  commits : (state : SystemState) → slice_get (is.world).systems (system - 1) ≡ Some state
      → (meaning (is.world).rules).committed (suc (system - 1)) (state.log ++ is.next ∷ []) ≡ (meaning (is.world).rules).committed (suc (system - 1)) state.log
      ++ more
  commits state at =
      subst (λ log. (meaning (is.world).rules).committed (suc (system - 1)) (log ++ is.next ∷ []) ≡ (meaning (is.world).rules).committed (suc (system - 1)) log
      ++ more)
      (known_log state at) joins_at.commits

  joins : (state : SystemState) → slice_get (is.world).systems (system - 1) ≡ Some state
      → (state.up ≡ true) × Joins ((meaning (is.world).rules).committed (suc (system - 1)) state.log) more state.log claim
      (claim_at Out (suc (system - 1)) (is.world).claims) (claim_at In (suc (system - 1)) (is.world).claims) is.next
  joins state at = (
    is_state state at,
    subst (λ log. Joins ((meaning (is.world).rules).committed (suc (system - 1)) log) more log claim
        (claim_at Out (suc (system - 1)) (is.world).claims) (claim_at In (suc (system - 1)) (is.world).claims) is.next) (known_log state at) joins_at.joins,
  )

  -- the last record of the log is the one that joined it
  pub last-behind : last_of (log_of now.world system) ≡ Some is.next
  last-behind = ap (λ w. last_of (log_of w system)) is.appended ∙ last-entered is.world system is.next is.up

  -- noting it asks no more than is known
  pub to_note-behind : IsToNote (log_of now.world system) more claim (system - 1) now.tables
  to_note-behind = record {
    next = is.next;
    last = last-behind;
    can = λ its at.
        let before = is.entered.its its at in
        let state = standing.state in
        let one = is.in_step.each (system - 1) state before.0 standing.at before.1 in
        subst (λ (t : TablesOf A). CanNote is.next more claim t) (sym before.2)
        (CanNote-joins stands ((meaning (is.world).rules).committed (suc (system - 1)) state.log) more state.log claim
        (claim_at Out (suc (system - 1)) (is.world).claims) (claim_at In (suc (system - 1)) (is.world).claims) is.next before.0 (one.up standing.up)
        (joins state standing.at).1);
  }

  -- what was made for the application goes with it
  abbrev goes : A → List Record → Type 0
  goes application log = goes_with application log is.next extra

  made : (state : SystemState) (old : TablesOf A) → slice_get (is.world).systems (system - 1) ≡ Some state → slice_get is.tables (system - 1) ≡ Some old
      → goes old.application state.log
  made state old known at =
      subst (λ log. goes old.application log) (ap (log_of is.world) (sym number) ∙ known_log state known) (is.goes old at)

  -- it is noted, and the claim goes that it ends
  pub in_step-behind : (after : WorldTables R A E) → after.world ≡ without_named now.world claim
      → ChangedAt (Noted stands goes is.next more) (system - 1) now.tables after.tables → AreInStepWith stands meaning after.world after.tables
  in_step-behind after world noted =
      let w : World R = record (with_record is.world system is.next) { claims = claims_without (is.world).claims claim } in
      let same : after.world ≡ w =
      world ∙ ap (λ v. without_named v claim) is.appended ∙ without_named-is (with_record is.world system is.next) claim
      ∙ ap (λ claims. let v : World R = record (with_record is.world system is.next) { claims = claims_without claims claim } in v) claims_stay in
      subst (λ (v : World R). AreInStepWith stands meaning v after.tables) (sym same)
      (subst (λ rules. AreInStep stands (meaning rules) w.systems w.claims after.tables) (sym rules_stay)
      (in_step-noted stands (meaning (is.world).rules) (is.world).claims (system - 1) is.apart (is.world).systems is.tables is.in_step is.next more commits
      goes w.systems after.tables claim joins joins_at.ends (systems-changed is.world system (state_with is.next) is.up)
      (ChangedAt-then (λ old after. after ≡ entered more old) (Noted stands goes is.next more)
      (λ old after. Noted stands goes is.next more (entered more old) after)
      (system - 1) is.tables now.tables after.tables (λ x y z same noted. subst (λ (t : TablesOf A). Noted stands goes is.next more t z) same noted) is.entered
      noted)
      made))
    where
      claims_stay : (with_record is.world system is.next).claims ≡ (is.world).claims
      claims_stay = (kept-with_state is.world system (state_with is.next) standing.state standing.known).0

      rules_stay : (with_record is.world system is.next).rules ≡ (is.world).rules
      rules_stay = (kept-with_state is.world system (state_with is.next) standing.state standing.known).2

  -- or the system falls behind it
  pub in_step-fell_behind : (after : WorldTables R A E) → after.world ≡ now.world →
      ChangedAt (λ before t. t.units ≡ before.units) (system - 1) now.tables after.tables
      → AreInStep stands (meaning (after.world).rules) (with_state after.world system (state_down None)).systems (after.world).claims after.tables
  in_step-fell_behind after world units =
      let grown : World R = with_record is.world system is.next in
      let stays = kept-with_state is.world system (state_with is.next) standing.state standing.known in
      let up = up-written is.world system is.next is.up in
      subst (λ (v : World R). AreInStep stands (meaning v.rules) (with_state v system (state_down None)).systems v.claims after.tables)
      (sym (world ∙ is.appended))
      (subst (λ rules. AreInStep stands (meaning rules) (with_state grown system (state_down None)).systems grown.claims after.tables) (sym stays.2)
      (subst (λ claims. AreInStep stands (meaning (is.world).rules) (with_state grown system (state_down None)).systems claims after.tables) (sym stays.0)
      (in_step-fallen stands (meaning (is.world).rules) (is.world).claims (system - 1) is.apart (is.world).systems is.tables is.in_step is.next more commits
      (with_state grown system (state_down None)).systems after.tables None
      (ChangedAt-then (λ old new. new ≡ state_with is.next old) (λ old new. new ≡ state_down None old)
      (λ old new. new ≡ state_down None (state_with is.next old))
      (system - 1) (is.world).systems grown.systems (with_state grown system (state_down None)).systems
      (λ x y z first second. second ∙ ap (state_down None) first)
      (systems-changed is.world system (state_with is.next) is.up) (systems-changed grown system (state_down None) up))
      (ChangedAt-then (λ old t. t ≡ entered more old) (λ before t. t.units ≡ before.units) (λ old t. t.units ≡ old.units ++ more)
      (system - 1) is.tables now.tables after.tables (λ x y z first second. second ∙ ap (λ (t : TablesOf A). t.units) first) is.entered units))))

-- a record that was written fitted, whether or not the system falls behind it
pub full-after : (place : ℕ) (journals : SystemJournals) (log : List Record) (next : Record) (r : Result (Unit {0}) AppendEnd) → OnErr r (r ≡ Err After)
    → FullAs {T = Unit {0}} place journals log next (Ok tt) → FullAs place journals log next r
full-after place journals log next (Ok done) fell is = is
full-after place journals log next (Err end) fell is = λ size not_before.
    let told = is size (λ bad. cc) in (λ same. cc, λ fits. let bad = told.1 fits in cc)
