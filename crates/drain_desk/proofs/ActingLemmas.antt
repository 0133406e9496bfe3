-- Works are done: the unit of a claim is shipped or executed, or its claim does not stand.
use Rattle.std.specs.Prelude.{OnOk, filter}
use Rattle.std.specs.List.{list_all}
use Rattle.std.proofs.Common.{◌≡◌, ◌==◌, ◌&&◌, ℕ, not, Bool, true, false, Option, Some, None, List, [], ◌∷◌, Result, Ok, Err, inl, inr, refl, sym, ap, subst}
use Rattle.std.proofs.Common.{◌∙◌}
use Rattle.std.proofs.lemmas.Bool.{and_parts, both_ways, cases_Bool, not-true}
use Rattle.std.proofs.lemmas.Option.{same_Some}
use Rattle.ale_volumes.specs.Disk.{Disk}
use Rattle.ale_base.specs.declared.out_of_memory.OutOfMemory.{OutOfMemory}
use Rattle.unit_core.specs.declared.ale_unit.AleUnit.{AleUnit}
use Rattle.unit_core.specs.Filters.{executed, is_marked, received}
use Rattle.unit_core.specs.Queues.{heads_inbound, unit_named}
use Rattle.ale_base.specs.declared.way.Way.TheVariants.{Incoming}
use Rattle.unit_core.proofs.TidLemmas.{unit_named-Some}
use Rattle.trfc_protocol.specs.declared.held.Held.{Held}
use Rattle.trfc_protocol.specs.declared.held.HeldKind.{HeldKind}
use Rattle.trfc_protocol.specs.declared.held.HeldKind.TheVariants.{Direct, In, Out}
use Rattle.trfc_protocol.specs.Offered.{is_stopped_inbound, is_stopped_outbound, may_move}
use Rattle.trfc_protocol.specs.Safe.{is_due}
use Rattle.trfc_protocol.specs.declared.world.World.{World}
use Rattle.trfc_protocol.specs.Worlds.{claim_of, committed_unit, is_kind, log_of, without_claim}
use Rattle.trfc_protocol.proofs.ClaimLemmas.{claim_of-Some}
use Rattle.trfc_protocol.proofs.LegalLemmas.{is_free-parts}
use Rattle.trfc_protocol.proofs.SafeLemmas.{hold, received-is}
use Rattle.unit_landscape.specs.KeptWorlds.{KeptOf}
use Rattle.document_state.specs.declared.document_tables.DocumentTables.{DocumentTables}
use Rattle.document_state.specs.declared.model_rules.ModelRules.{ModelRules}
use Rattle.unit_landscape.specs.Appending.{HoldsIn}
use Rattle.unit_landscape.specs.Calls.{is_on, is_out, stands_in, stands_out}
use Rattle.unit_landscape.specs.Kept.{IsLandscape}
use Rattle.unit_landscape.specs.declared.claims.InClaim.{InClaim}
use Rattle.unit_landscape.specs.declared.claims.OutClaim.{OutClaim}
use Rattle.unit_works.specs.Wires.{letters_left, next_letter}
use Rattle.unit_works.specs.Acts.{HasExecuted, HasShipped, execute, ship}
use Rattle.unit_works.specs.Claims.{AreOrGone, NoneRuns}
use Rattle.unit_works.specs.Events.{is_execution, is_shipping, is_work}
use Rattle.unit_works.specs.Trips.{AppendedAs, worked_by}
use Rattle.unit_works.specs.Worked.{HaveTaken, Lines}
use Rattle.unit_works.specs.Works.{ClaimExecutedAs, ClaimShippedAs}
use Rattle.unit_works.proofs.ClaimLemmas.{held-in, runs-without, stands-gone, stands-gone_in}
use Rattle.unit_works.proofs.DrainedLemmas.{only-same, taken-none, taken-one, worked-same}
use Rattle.unit_works.proofs.OnceLemmas.{once-shipped}
use Rattle.unit_works.proofs.WorkedLemmas.{execution-works, is_lawful, meaning, shipping-works, wider}
use Rattle.drain_desk.specs.declared.work.Task.TheVariants.{Execute, Ship}
use Rattle.drain_desk.specs.Done.{HasDone}
use Rattle.drain_desk.specs.Work.{MayGo}
use Rattle.drain_desk.specs.ToDo.{OthersStay}
use Rattle.drain_desk.specs.steps.Acting.{ActedAs, HasActed}
use Rattle.drain_desk.proofs.ToDoLemmas.{others-left, others-same}

-- a unit none of whose queues is stopped may move
moves-of : (is_stopped : AleUnit → Bool) (found : Option AleUnit) (unit : AleUnit) → found ≡ Some unit → is_stopped unit ≡ false
    → may_move is_stopped found ≡ true
moves-of is_stopped found unit is none = ap (may_move is_stopped) is ∙ ap not none

-- what is so of all claims is so of the one of a number
claim-all : (is : Held → Bool) (number : ℕ) (claims : List Held) (held : Held) → claim_of number claims ≡ Some held → list_all is claims ≡ true
    → is held ≡ true
claim-all is number [] held found all = cc
claim-all is number (h ∷ hs) held found all =
    let parts = and_parts (is h) (list_all is hs) all in
    elim (cases_Bool (h.number == number)) [
      | inl here ↦
          let same : h ≡ held = same_Some h held (sym (rw here refl) ∙ found) in
          subst (λ (g : Held). is g ≡ true) same parts.0
      | inr other ↦ claim-all is number hs held (sym (rw other refl) ∙ found) parts.1
    ]

kind-in : (kind : HeldKind) → is_kind kind Out ≡ false → is_kind kind Direct ≡ false → kind ≡ In
kind-in In out direct = refl
kind-in Out out direct = cc
kind-in Direct out direct = cc

-- a claim that went is not found
not-found : (number : ℕ) (claims : List Held) → claim_of number (filter (λ (h : Held). not (h.number == number)) claims) ≡ None
not-found number [] = refl
not-found number (h ∷ hs) = elim (cases_Bool (h.number == number)) [
  | inl here ↦ rw here (not-found number hs)
  | inr other ↦ rw other (rw other (not-found number hs))
]

-- so it does not stand
gone-out : (before after : World ModelRules) (claim : OutClaim) → AreOrGone before after (without_claim before claim.number).claims
    → stands_out after claim ≡ false
gone-out before after claim left = elim left [
  | inl are ↦
      ap (λ claims. is_on claim.tid (claim_of claim.number claims) && is_out (claim_of claim.number claims)) are
      ∙ ap (λ found. is_on claim.tid found && is_out found) (not-found claim.number before.claims)
  | inr gone ↦ stands-gone after claim gone.0
]

gone-in : (before after : World ModelRules) (claim : InClaim) → AreOrGone before after (without_claim before claim.number).claims
    → stands_in after claim ≡ false
gone-in before after claim left = elim left [
  | inl are ↦
      ap (λ claims. is_on claim.tid (claim_of claim.number claims) && not (is_out (claim_of claim.number claims))) are
      ∙ ap (λ found. is_on claim.tid found && not (is_out found)) (not-found claim.number before.claims)
  | inr gone ↦ stands-gone_in after claim gone.0
]

module _ {V : Type 0} (disk : Disk V) (before after : KeptOf ModelRules DocumentTables V) (lines lines_after : Lines) where
  -- nothing was done
  pub acted-none : after ≡ before → lines_after ≡ lines → HasActed disk before after lines lines_after 0
  acted-none same same_lines =
      let none = worked-same disk before after lines lines_after same same_lines in
      record {
        went = none.went;
        taken = none.taken;
        count = none.finished;
        runs = λ runs. ap (λ (k : KeptOf ModelRules DocumentTables V). list_all (λ (held : Held). not (is_kind held.kind Direct)) k.world.claims) same ∙ runs;
        acts = [];
        did = (only-same disk before after same, same_lines);
        ships = refl;
        once = λ runs tid. inl refl;
      }

  -- no queue of its unit is stopped
  moves-out : (claim : OutClaim) → MayGo before.world (Ship claim)
      → may_move (is_stopped_outbound (log_of before.world claim.tid.system)) (committed_unit (meaning before.world.rules) before.world claim.tid) ≡ true
  moves-out claim may =
      moves-of (is_stopped_outbound (log_of before.world claim.tid.system)) (committed_unit (meaning before.world.rules) before.world claim.tid) may.unit
      may.named may.is

  -- the unit of a claim was shipped
  pub acted-shipped : (claim : OutClaim) (n : ℕ) → MayGo before.world (Ship claim)
      → ClaimShippedAs disk before after lines lines_after claim (Ok (Some n)) → HasActed disk before after lines lines_after n
  acted-shipped claim n may did =
      let tid = claim.tid in
      let letter = next_letter (letters_left lines tid) in
      let moves = moves-out claim may in
      let was = did.2 in
      let shipped : HasShipped disk before after lines lines_after tid letter did.1 = record { may = did.3 moves; was = was } in
      record {
        went = wider disk (is_shipping letter) is_work true before after (shipping-works letter) was.went;
        taken = taken-one tid lines lines_after was.taken;
        count = did.4;
        runs = runs-without before.world after.world claim.number did.5;
        acts = ship tid letter did.1 ∷ [];
        did = (before, after, lines_after, only-same disk before before refl, shipped, (only-same disk after after refl, refl));
        ships = refl;
        once = λ runs other. once-shipped disk before after lines lines_after tid letter did.1 shipped runs other;
      }

  -- the unit of a claim that stood was executed
  executed-held : (claim : InClaim) (n : ℕ) → IsLandscape meaning before.world → MayGo before.world (Execute claim) → NoneRuns before.world.claims
      → ClaimExecutedAs disk before after claim (Ok n) → (held : Held) → HoldsIn before.world claim held
      → (whole : Bool) × HasExecuted disk before after held.system held.tid whole
  executed-held claim n is may runs did held holds =
      let rules = meaning before.world.rules in
      let law = is_lawful before.world.rules in
      let records = log_of before.world held.system in
      let direct = claim-all (λ (h : Held). not (is_kind h.kind Direct)) claim.number before.world.claims held holds.found runs in
      let kind = kind-in held.kind holds.kind (not-true (is_kind held.kind Direct) direct) in
      let its = hold rules law before.world is.safe held (claim_of-Some claim.number before.world.claims held holds.found).0 in
      let parts = is_free-parts (executed records) (is_marked Incoming held.tid records) (heads_inbound (executed records) (received records))
      (unit_named held.tid (received records)) (ap (is_due rules before.world held) (sym kind) ∙ its.due) in
      let unit = parts.0 in
      let found = unit_named-Some held.tid (received records) unit parts.1 in
      let got = received-is rules law before.world is.safe held.system unit found.0 in
      let same : may.unit ≡ unit =
      same_Some may.unit unit (sym may.named ∙ ap (committed_unit rules before.world) (sym (found.1 ∙ holds.its)) ∙ got.1) in
      let stopped : is_stopped_inbound records unit ≡ false =
      ap (λ s. is_stopped_inbound (log_of before.world s) unit) (sym got.0)
      ∙ ap (λ (u : AleUnit). is_stopped_inbound (log_of before.world u.receiver) u) (sym same) ∙ may.is in
      let moves = moves-of (is_stopped_inbound records) (unit_named held.tid (received records)) unit parts.1 stopped in
      let ended = did.2 held holds in (
        ended.0,
        record {
          may = did.3 held holds kind moves;
          went = did.1;
          grew = subst (λ xs. AppendedAs before after xs ended.0) (ap (worked_by rules before.world held) kind) ended.1;
        },
      )

  -- the unit of a claim was executed, or the claim does not stand
  pub acted-executed : (claim : InClaim) (n : ℕ) → IsLandscape meaning before.world → MayGo before.world (Execute claim) → NoneRuns before.world.claims
      → lines_after ≡ lines → ClaimExecutedAs disk before after claim (Ok n) → HasActed disk before after lines lines_after n
  acted-executed claim n is may runs same_lines did = elim (cases_Bool (stands_in before.world claim)) [
    | inr stale ↦
        let none = acted-none (did.0 stale) same_lines in
        record {
          went = none.went;
          taken = none.taken;
          count = did.4;
          runs = none.runs;
          acts = none.acts;
          did = none.did;
          ships = none.ships;
          once = none.once;
        }
    | inl stands ↦
        let there = held-in before.world claim stands in
        let held = there.0 in
        let executed_so = executed-held claim n is may runs did held there.1 in
        record {
          went = wider disk is_execution is_work true before after execution-works did.1;
          taken = subst (HaveTaken lines) (sym same_lines) (taken-none lines);
          count = did.4;
          runs = runs-without before.world after.world claim.number (did.5 stands);
          acts = execute held.system held.tid executed_so.0 ∷ [];
          did = (before, after, lines, only-same disk before before refl, (executed_so.1, refl), (only-same disk after after refl, same_lines));
          ships = refl;
          once = λ none tid. inl refl;
        }
  ]

  -- ---- what else was to be done

  pub others-shipped : (claim : OutClaim) (n : ℕ) → ClaimShippedAs disk before after lines lines_after claim (Ok (Some n))
      → OthersStay before.world after.world (Ship claim)
  others-shipped claim n did = others-left before.world after.world (Ship claim) did.5

  pub others-executed : (claim : InClaim) (result : Result ℕ OutOfMemory) → ClaimExecutedAs disk before after claim result
      → OnOk result (OthersStay before.world after.world (Execute claim))
  others-executed claim (Err short) did = tt
  others-executed claim (Ok n) did = elim (cases_Bool (stands_in before.world claim)) [
    | inl stands ↦ others-left before.world after.world (Execute claim) (did.5 stands)
    | inr stale ↦
        others-same before.world after.world (Execute claim) (ap (λ (k : KeptOf ModelRules DocumentTables V). k.world) (did.0 stale))
  ]

  -- ---- the work of a task was done

  pub done-shipped : (claim : OutClaim) (n : ℕ) → MayGo before.world (Ship claim)
      → ClaimShippedAs disk before after lines lines_after claim (Ok (Some n)) → HasDone disk before after lines lines_after (Ship claim)
  done-shipped claim n may did = (
    λ stands. (did.1, record { may = did.3 (moves-out claim may); was = did.2 }),
    λ stale. absurd (both_ways (stands_out before.world claim) stale did.0),
    gone-out before.world after.world claim did.5,
  )

  pub done-none : (claim : OutClaim) → ClaimShippedAs disk before after lines lines_after claim (Ok None)
      → HasDone disk before after lines lines_after (Ship claim)
  done-none claim did = (
    λ stands. absurd (both_ways (stands_out before.world claim) did.2 stands),
    λ stale. (did.0, did.1),
    ap (λ (k : KeptOf ModelRules DocumentTables V). stands_out k.world claim) did.0 ∙ did.2,
  )

  done-executed : (claim : InClaim) (n : ℕ) → IsLandscape meaning before.world → MayGo before.world (Execute claim) → NoneRuns before.world.claims
      → lines_after ≡ lines → ClaimExecutedAs disk before after claim (Ok n) → HasDone disk before after lines lines_after (Execute claim)
  done-executed claim n is may runs same_lines did = (
    executed-held claim n is may runs did,
    λ stale. (did.0 stale, same_lines),
    elim (cases_Bool (stands_in before.world claim)) [
      | inl stands ↦ gone-in before.world after.world claim (did.5 stands)
      | inr stale ↦ ap (λ (k : KeptOf ModelRules DocumentTables V). stands_in k.world claim) (did.0 stale) ∙ stale
    ],
  )

  -- the same of a call
  pub executed-as : (claim : InClaim) (result : Result ℕ OutOfMemory) → IsLandscape meaning before.world → MayGo before.world (Execute claim)
      → NoneRuns before.world.claims → lines_after ≡ lines → ClaimExecutedAs disk before after claim result
      → ActedAs disk before after lines lines_after result
  executed-as claim (Ok n) is may runs same_lines did = acted-executed claim n is may runs same_lines did
  executed-as claim (Err short) is may runs same_lines did = wider disk is_execution is_work false before after execution-works did

  pub done-as : (claim : InClaim) (result : Result ℕ OutOfMemory) → IsLandscape meaning before.world → MayGo before.world (Execute claim)
      → NoneRuns before.world.claims → lines_after ≡ lines → ClaimExecutedAs disk before after claim result
      → OnOk result (HasDone disk before after lines lines_after (Execute claim))
  done-as claim (Ok n) is may runs same_lines did = done-executed claim n is may runs same_lines did
  done-as claim (Err short) is may runs same_lines did = tt
