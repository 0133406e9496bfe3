-- Units are claimed, and what they are prepared from.
use Rattle.std.specs.Option.{option_map_or}
use Rattle.std.specs.List.{list_all}
use Rattle.std.proofs.Common.{◌≡◌, ◌&&◌, ℕ, not, Bool, true, false, Option, Some, None, List, [], ◌∷◌, ◌++◌, refl, sym, ap, subst, ◌∙◌}
use Rattle.std.proofs.lemmas.Bool.{and_from, and_parts, not-true}
use Rattle.std.proofs.lemmas.List.Folds.{list_all-append}
use Rattle.std.proofs.lemmas.Option.{same_Some}
use Rattle.ale_volumes.specs.Disk.{Disk}
use Rattle.ale_base.specs.Tid.{TidOf}
use Rattle.unit_core.specs.declared.ale_unit.AleUnit.{AleUnit}
use Rattle.unit_core.specs.Filters.{received}
use Rattle.unit_core.specs.Queues.{unit_named}
use Rattle.unit_core.proofs.TidLemmas.{is_tid-same, unit_named-Some}
use Rattle.dist_model.specs.declared.lists.Lists.{Lists}
use Rattle.inbound_post.specs.Prepared.{prepared}
use Rattle.said_models.specs.OfLog.{model_of}
use Rattle.document_state.specs.OfLog.{applied_by, postings_behind}
use Rattle.document_state.specs.declared.document_tables.DocumentTables.{DocumentTables}
use Rattle.trfc_protocol.specs.declared.event.Event.{Event}
use Rattle.trfc_protocol.specs.declared.held.Held.{Held}
use Rattle.trfc_protocol.specs.declared.held.HeldKind.TheVariants.{Direct}
use Rattle.trfc_protocol.specs.declared.world.World.{World}
use Rattle.trfc_protocol.specs.Legal.{is_free_inbound, is_free_outbound}
use Rattle.trfc_protocol.specs.Offered.{is_stopped_inbound, is_stopped_outbound, may_move}
use Rattle.trfc_protocol.specs.Worlds.{claim_of, committed_by, committed_unit, is_kind, is_up, log_of}
use Rattle.trfc_protocol.proofs.SafeLemmas.{received-is}
use Rattle.unit_landscape.specs.KeptWorlds.{KeptOf}
use Rattle.unit_landscape.specs.Calls.{is_on, is_out}
use Rattle.unit_landscape.specs.Kept.{IsLandscape}
use Rattle.unit_landscape.specs.declared.claims.InClaim.{InClaim}
use Rattle.unit_landscape.specs.declared.claims.OutClaim.{OutClaim}
use Rattle.document_state.specs.declared.model_rules.ModelRules.{ModelRules}
use Rattle.landscape.specs.Standing.{StandAt}
use Rattle.landscape.specs.Working.{IsPreparedFor}
use Rattle.unit_works.specs.Events.{is_claim, is_run, is_work}
use Rattle.unit_works.specs.Worked.{HaveOnlyClaimed, Worked}
use Rattle.unit_works.specs.Claiming.{IsExecuted, IsShipped, in_held, out_held}
use Rattle.unit_works.proofs.WentLemmas.{went-whole}
use Rattle.unit_works.proofs.WorkedLemmas.{claim-works, execution-works, is_lawful, meaning, run-executes, still, wider}
use Rattle.drain_desk.specs.declared.work.Task.TheVariants.{Execute, Ship}
use Rattle.unit_works.specs.Claims.{NoneRuns}
use Rattle.drain_desk.specs.Work.{MayGo}
use Rattle.drain_desk.specs.ToDo.{IsToDo}
use Rattle.drain_desk.specs.steps.Claiming.{Claims}
use Rattle.drain_desk.proofs.LastingLemmas.{MayGo-claimed}
use Rattle.drain_desk.proofs.ToDoLemmas.{found-last, stay-claimed}

-- what is prepared from a unit and the model of its receiver
pub base-of : (world : World ModelRules) (tid : TidOf) (unit : AleUnit) (tables : DocumentTables) (model : Lists)
    → committed_unit (meaning world.rules) world tid ≡ Some unit → StandAt world unit.receiver tables
    → model_of (log_of world unit.receiver) ≡ Some model
    → IsPreparedFor world tid (prepared model unit.receiver unit).postings
base-of world tid unit tables model named stands in_force = λ other its.
    let same : unit ≡ other = same_Some unit other (sym named ∙ its) in
    let records = log_of world unit.receiver in
    subst (λ (u : AleUnit). (prepared model unit.receiver unit).postings ≡ postings_behind (log_of world u.receiver) u) same
    (ap (λ s. (prepared model s unit).postings) (sym stands.applied)
    ∙ ap (λ (found : Option Lists). option_map_or (λ (m : Lists). (prepared m (applied_by records).system unit).postings) found []) (sym in_force))

-- one claim more, which is to run no unit as it arrives
runs-more : (claims : List Held) (held : Held) → is_kind held.kind Direct ≡ false → NoneRuns claims → NoneRuns (claims ++ held ∷ [])
runs-more claims held other none =
    let is : Held → Bool = λ (h : Held). not (is_kind h.kind Direct) in
    list_all-append is claims (held ∷ [])
    ∙ and_from (list_all is claims) (list_all is (held ∷ [])) none (and_from (is held) true (ap not other) refl)

-- none of the queues of a unit that may go is stopped
moves-not : (is_stopped : AleUnit → Bool) (found : Option AleUnit) (unit : AleUnit) → found ≡ Some unit → may_move is_stopped found ≡ true
    → is_stopped unit ≡ false
moves-not is_stopped found unit is moves =
    not-true (is_stopped unit) (sym (ap (may_move is_stopped) is) ∙ moves)

-- a unit that is there
moves-there : (is_stopped : AleUnit → Bool) (found : Option AleUnit) → may_move is_stopped found ≡ true → (unit : AleUnit) × (found ≡ Some unit)
moves-there is_stopped None moves = cc
moves-there is_stopped (Some unit) moves = (unit, refl)

-- whole work is work
pub whole-or-not : {V : Type 0} (may : Event → Bool) (disk : Disk V) (before after : KeptOf ModelRules DocumentTables V) (whole : Bool)
    → Worked disk before after may true → Worked disk before after may whole
whole-or-not may disk before after whole went = went-whole meaning disk may whole before after went

module _ {V : Type 0} (disk : Disk V) (before after : KeptOf ModelRules DocumentTables V) where
  -- nothing was claimed
  pub claims-same : (whole : Bool) → after ≡ before → Claims disk before after whole
  claims-same whole same = record {
    went = still disk is_work whole before after same;
    only = subst (HaveOnlyClaimed before) (sym same) (record { world = refl; journals = refl; vols = refl; causes = refl });
    runs = λ none. ap (λ (k : KeptOf ModelRules DocumentTables V). list_all (λ (h : Held). not (is_kind h.kind Direct)) k.world.claims) same ∙ none;
    stay = λ other stands. subst (λ (k : KeptOf ModelRules DocumentTables V). IsToDo k.world other) (sym same) stands;
  }

  -- a unit was claimed to be shipped
  pub claims-out : (whole : Bool) (system : ℕ) (claim : OutClaim) → Worked disk before after is_claim whole → HaveOnlyClaimed before after
      → IsShipped (meaning before.world.rules) before.world after.world system claim → Claims disk before after whole
  claims-out whole system claim went only is = record {
    went = wider disk is_claim is_work whole before after claim-works went;
    only = only;
    runs = λ none. subst NoneRuns (sym is.claims) (runs-more before.world.claims _ refl none);
    stay = stay-claimed before.world after.world (out_held claim ∷ []) is.claims;
  }

  -- and to be executed
  pub claims-in : (whole : Bool) (system : ℕ) (claim : InClaim) → Worked disk before after is_run whole → HaveOnlyClaimed before after
      → IsExecuted (meaning before.world.rules) before.world after.world system claim → Claims disk before after whole
  claims-in whole system claim went only is = record {
    went = wider disk is_run is_work whole before after (λ e it. execution-works e (run-executes e it)) went;
    only = only;
    runs = λ none. subst NoneRuns (sym is.claims) (runs-more before.world.claims _ refl none);
    stay = stay-claimed before.world after.world (in_held claim ∷ []) is.claims;
  }

  -- what was claimed to be executed is to be done
  pub to_do-in : (system : ℕ) (claim : InClaim) → IsExecuted (meaning before.world.rules) before.world after.world system claim
      → IsToDo after.world (Execute claim)
  to_do-in system claim is =
      let found = ap (claim_of claim.number) is.claims ∙ found-last claim.number before.world.claims (in_held claim) refl is.fresh in
      ap (λ f. is_on claim.tid f && not (is_out f)) found ∙ ap (λ b. b && true) (is_tid-same claim.tid)

  -- a unit that was claimed to be shipped may go
  pub may-out : (system : ℕ) (claim : OutClaim) → HaveOnlyClaimed before after
      → IsShipped (meaning before.world.rules) before.world after.world system claim → MayGo after.world (Ship claim)
  may-out system claim only is =
      let parts = and_parts (is_up before.world claim.tid.system
      && is_free_outbound (committed_by (meaning before.world.rules) before.world claim.tid.system) (log_of before.world claim.tid.system) claim.tid)
      (may_move (is_stopped_outbound (log_of before.world claim.tid.system)) (committed_unit (meaning before.world.rules) before.world claim.tid)) is.may in
      MayGo-claimed before after only (Ship claim) (record {
        unit = is.unit;
        named = is.committed;
        is = moves-not (is_stopped_outbound (log_of before.world claim.tid.system)) (committed_unit (meaning before.world.rules) before.world claim.tid)
            is.unit is.committed parts.1;
      })

  -- and one that was claimed to be executed
  pub may-in : (system : ℕ) (claim : InClaim) → IsLandscape meaning before.world → HaveOnlyClaimed before after
      → IsExecuted (meaning before.world.rules) before.world after.world system claim → MayGo after.world (Execute claim)
  may-in system claim is_landscape only is =
      let records = log_of before.world system in
      let parts = and_parts (is_up before.world system && is_free_inbound records claim.tid)
      (may_move (is_stopped_inbound records) (unit_named claim.tid (received records))) is.may in
      let there = moves-there (is_stopped_inbound records) (unit_named claim.tid (received records)) parts.1 in
      let unit = there.0 in
      let found = unit_named-Some claim.tid (received records) unit there.1 in
      let its = received-is (meaning before.world.rules) (is_lawful before.world.rules) before.world is_landscape.safe system unit found.0 in
      MayGo-claimed before after only (Execute claim) (record {
        unit = unit;
        named = ap (committed_unit (meaning before.world.rules) before.world) (sym found.1) ∙ its.1;
        is = ap (λ s. is_stopped_inbound (log_of before.world s) unit) its.0
            ∙ moves-not (is_stopped_inbound records) (unit_named claim.tid (received records)) unit there.1 parts.1;
      })
