-- The end of a claim's work is its event.
use Rattle.std.specs.Option.{option_and_then, option_map_or}
use Rattle.std.specs.Prelude.{Contains, Result, Ok, Err}
use Rattle.std.proofs.Common.{◌≡◌, true, false, not, cond, ◌&&◌, Option, Some, refl, sym, ap, subst, ◌∙◌}
use Rattle.std.proofs.lemmas.Bool.{both_ways}
use Rattle.ale_volumes.specs.Disk.{Disk}
use Rattle.ale_base.specs.Tid.{is_tid}
use Rattle.ale_base.specs.declared.way.Way.TheVariants.{Incoming}
use Rattle.ale_base.specs.declared.out_of_memory.OutOfMemory.{OutOfMemory}
use Rattle.unit_core.specs.declared.ale_unit.AleUnit.{AleUnit}
use Rattle.unit_core.specs.declared.records.Record.{Record}
use Rattle.unit_core.specs.declared.records.Record.TheVariants as log
use Rattle.unit_core.specs.Filters.{received, executed, is_marked}
use Rattle.unit_core.specs.Queues.{unit_named, heads_inbound}
use Rattle.unit_core.proofs.TidLemmas.{is_tid-same, unit_named-Some}
use Rattle.trfc_protocol.specs.declared.world.World.{World}
use Rattle.trfc_protocol.specs.declared.held.Held.{Held}
use Rattle.trfc_protocol.specs.declared.held.HeldKind.{HeldKind}
use Rattle.trfc_protocol.specs.declared.held.HeldKind.TheVariants.{Out, In, Direct}
use Rattle.trfc_protocol.specs.declared.event.Event.TheVariants as event
use Rattle.trfc_protocol.specs.Meaning.{Meaning}
use Rattle.trfc_protocol.specs.Legal.{IsLawful, offers_that_of, is_free_inbound}
use Rattle.trfc_protocol.specs.Worlds.{log_of, committed_unit, offers_now, is_kind, claim_of}
use Rattle.trfc_protocol.specs.Offered.{offers_received_now}
use Rattle.trfc_protocol.specs.RecordOf.{Writing, record_if, record_of_run, record_of_work, record_of_failure, record_of_claim, record_of}
use Rattle.trfc_protocol.specs.Safe.{is_due, Safe}
use Rattle.trfc_protocol.proofs.ClaimLemmas.{claim_of-Some}
use Rattle.trfc_protocol.proofs.SafeLemmas.{IsRun-due, hold, received-is}
use Rattle.trfc_protocol.proofs.LegalLemmas.{is_free-parts}
use Rattle.unit_landscape.specs.KeptWorlds.{KeptOf}
use Rattle.unit_landscape.specs.declared.appending.Appended.{Appended}
use Rattle.unit_landscape.specs.declared.appending.Appended.TheVariants.{Written, Fallen}
use Rattle.unit_landscape.specs.declared.answers.Finished.TheVariants as finished
use Rattle.unit_landscape.specs.declared.claims.InClaim.{InClaim}
use Rattle.unit_landscape.specs.declared.claims.Receipt.{Receipt}
use Rattle.unit_landscape.specs.Writes.{Appends}
use Rattle.unit_landscape.specs.Ends.{FellInstead, IsShort}
use Rattle.unit_landscape.specs.Calls.{is_on, is_out, stands_in, is_offered_function, finish_event, FinishedAs}
use Rattle.unit_landscape.specs.Appending.{at, HoldsIn, EndsSo, finished_of}
use Rattle.unit_landscape.proofs.EndsLemmas.{was-written, was-fallen, was-short}

-- the kinds of a claim that is no shipment
record KindsIn (P : HeldKind → Type 0) : Type 0 where
  in_ : P In
  direct : P Direct

by_kind : (P : HeldKind → Type 0) → KindsIn P → (kind : HeldKind) → is_kind kind Out ≡ false → P kind
by_kind P each In is = each.in_
by_kind P each Direct is = each.direct
by_kind P each Out is = cc

module _ {R : Type 0} (world : World R) (claim : InClaim) where
  -- a claim that holds stands
  pub in-stands : (held : Held) → HoldsIn world claim held → stands_in world claim ≡ true
  in-stands held holds =
      ap (λ found. is_on claim.tid found && not (is_out found)) holds.found
      ∙ ap (λ t. is_tid t claim.tid && not (is_kind held.kind Out)) holds.its
      ∙ ap (λ b. b && not (is_kind held.kind Out)) (is_tid-same claim.tid)
      ∙ ap not holds.kind

  -- it has the number that it was given
  pub in-number : (held : Held) → HoldsIn world claim held → held.number ≡ claim.number
  in-number held holds = (claim_of-Some claim.number world.claims held holds.found).1

  pub in-found : (held : Held) → HoldsIn world claim held → claim_of held.number world.claims ≡ Some held
  in-found held holds = subst (λ n. claim_of n world.claims ≡ Some held) (sym (in-number held holds)) holds.found

module _ {R : Type 0} (rules : Meaning) (lawful : IsLawful rules) (world : World R) (safe : Safe rules world) (held : Held)
    (found : claim_of held.number world.claims ≡ Some held) where
  has : Contains world.claims held
  has = (claim_of-Some held.number world.claims held found).0

  of_kind : (pick : Held → HeldKind → Option Writing) (kind : HeldKind) → held.kind ≡ kind → record_of_claim world pick held.number ≡ pick held kind
  of_kind pick kind is = ap (option_and_then (λ (h : Held). pick h h.kind)) found ∙ ap (pick held) is

  -- a unit that is claimed to be executed was received where it is claimed, and its function is asked for there
  received_here : held.kind ≡ In
      → (unit : AleUnit) × (unit_named held.tid (received (log_of world held.system)) ≡ Some unit) × (committed_unit rules world held.tid
      ≡ Some unit) × (unit.receiver ≡ held.system)
  received_here is =
      let l = log_of world held.system in
      let free : is_free_inbound l held.tid ≡ true = subst (λ k. is_due rules world held k ≡ true) is (hold rules lawful world safe held has).due in
      let parts = is_free-parts (executed l) (is_marked Incoming held.tid l) (heads_inbound (executed l) (received l))
      (unit_named held.tid (received l)) free in
      let there = unit_named-Some held.tid (received l) parts.0 parts.1 in
      let its = received-is rules lawful world safe held.system parts.0 there.0 in (
        parts.0,
        parts.1,
        subst (λ t. committed_unit rules world t ≡ Some parts.0) there.1 its.1,
        its.0,
      )

  same_offer : held.kind ≡ In → offers_received_now rules world held.system held.tid ≡ is_offered_function rules world held.tid
  same_offer is =
      let here = received_here is in
      let unit : AleUnit = here.0 in
      ap (offers_that_of (offers_now rules world held.system)) here.1
      ∙ ap (λ s. offers_now rules world s unit.function) (sym here.3)
      ∙ sym (ap (λ f. option_map_or (λ (u : AleUnit). offers_now rules world u.receiver u.function) f false) here.2)

  -- a unit that was taken in is executed
  pub execute-appends : held.kind ≡ In → is_offered_function rules world held.tid ≡ true
      → Appends rules world held.system (log.Execute held.tid) (Some held.number) (event.Finish held.number)
  execute-appends is offers = record {
    writes = of_kind (record_of_work rules world) In is ∙ ap (λ b. record_if b held.system (log.Execute held.tid)) (same_offer is ∙ offers);
    ends = refl;
    texts = λ none. cc;
  }

  -- a unit is executed as it arrives
  pub direct-appends : held.kind ≡ Direct → (unit : AleUnit) → committed_unit rules world held.tid ≡ Some unit
      → Appends rules world held.system (log.Direct unit) (Some held.number) (event.Finish held.number)
  direct-appends is unit named =
      let run = IsRun-due rules world held.system held.tid (subst (λ k. is_due rules world held k ≡ true) is (hold rules lawful world safe held has).due) in
      let its : run.unit ≡ unit = cc (run.named, named) in
      let offers : offers_now rules world held.system unit.function ≡ true = subst (λ (u : AleUnit). offers_now rules world held.system u.function ≡ true) its
      run.offers in
      record {
        writes = of_kind (record_of_work rules world) Direct is
            ∙ ap (option_and_then (record_of_run rules world held)) named
            ∙ ap (λ b. record_if b held.system (log.Direct unit)) offers;
        ends = refl;
        texts = λ none. cc;
      }

  -- a direct run is of a function that is offered
  direct-offered : held.kind ≡ Direct → is_offered_function rules world held.tid ≡ true
  direct-offered is =
      let run = IsRun-due rules world held.system held.tid (subst (λ k. is_due rules world held k ≡ true) is (hold rules lawful world safe held has).due) in
      let unit : AleUnit = run.unit in
      ap (λ f. option_map_or (λ (u : AleUnit). offers_now rules world u.receiver u.function) f false) run.named
      ∙ ap (λ s. offers_now rules world s unit.function) run.receiver ∙ run.offers

  -- a unit that was taken in fails
  pub fail-appends : is_kind held.kind Out ≡ false → is_offered_function rules world held.tid ≡ false
      → Appends rules world held.system (log.Fail held.tid) (Some held.number) (event.Fail held.number)
  fail-appends kind not_offered = by_kind (λ k. held.kind ≡ k → Appends rules world held.system (log.Fail held.tid) (Some held.number) (event.Fail held.number))
      (record {
        in_ = λ is. record {
          writes = of_kind (record_of_failure rules world) In is ∙ ap (λ b. record_if (not b) held.system (log.Fail held.tid)) (same_offer is ∙ not_offered);
          ends = refl;
          texts = λ none. cc;
        };
        direct = λ is. absurd (both_ways (is_offered_function rules world held.tid) not_offered (direct-offered is));
      }) held.kind kind refl

module _ {R : Type 0} (rules : Meaning) (world : World R) (claim : InClaim) (held : Held) (holds : HoldsIn world claim held) (next : Record) where
  -- the record of an execution is that of the event
  pub executed-record : Appends rules world held.system next (Some held.number) (event.Finish held.number)
      → record_of rules world (event.Finish claim.number) ≡ Some (at held.system next)
  executed-record does = subst (λ n. record_of rules world (event.Finish n) ≡ Some (at held.system next)) (in-number world claim held holds) does.writes

  -- the record of a failure is that of the event
  pub failed-record : Appends rules world held.system next (Some held.number) (event.Fail held.number)
      → record_of rules world (event.Fail claim.number) ≡ Some (at held.system next)
  failed-record does = subst (λ n. record_of rules world (event.Fail n) ≡ Some (at held.system next)) (in-number world claim held holds) does.writes

-- a unit whose function is not offered fails
pub failing : {R : Type 0} (rules : Meaning) → IsLawful rules → (world : World R) → Safe rules world → (claim : InClaim) (held : Held) →
    HoldsIn world claim held
    → is_offered_function rules world claim.tid ≡ false → Appends rules world held.system (log.Fail held.tid) (Some held.number) (event.Fail held.number)
failing rules lawful world safe claim held holds offers =
    fail-appends rules lawful world safe held (in-found world claim held holds) holds.kind
    (ap (is_offered_function rules world) holds.its ∙ offers)

-- how the work of a claim ends, by how its record was appended
module _ {R A V : Type 0} (rules : Meaning) (disk : Disk V) (before after : KeptOf R A V) (claim : InClaim) (held : Held)
    (holds : HoldsIn before.world claim held)
    (next : Record) (result : Result Appended OutOfMemory) (ends : EndsSo rules disk before after held.system next (Some held.number) result) where
  abbrev number : held.number ≡ claim.number
  number = in-number before.world claim held holds

  pub executed-as : (receipt : Receipt) → receipt.tid ≡ claim.tid → is_offered_function rules before.world claim.tid ≡ true
      → Appends rules before.world held.system next (Some held.number) (event.Finish held.number)
      → FinishedAs rules disk before after claim (finished_of (finished.Executed receipt) result)
  executed-as receipt its offers appends = at_end result refl
    where
      does : Appends rules before.world held.system next (Some held.number) (event.Finish claim.number)
      does = subst (λ n. Appends rules before.world held.system next (Some held.number) (event.Finish n)) number appends

      is_finish : event.Finish claim.number ≡ finish_event rules before.world claim
      is_finish = sym (ap (λ b. cond b (event.Finish claim.number) (event.Fail claim.number)) offers)

      at_end : (r : Result Appended OutOfMemory) → result ≡ r → FinishedAs rules disk before after claim (finished_of (finished.Executed receipt) r)
      at_end (Ok Written) is = (
        in-stands before.world claim held holds,
        offers,
        was-written rules disk before after held.system next (Some held.number) (event.Finish claim.number) does result ends Written is refl,
        its,
      )
      at_end (Ok Fallen) is = (
        in-stands before.world claim held holds,
        subst (FellInstead rules disk before after) is_finish
            (was-fallen rules disk before after held.system next (Some held.number) (event.Finish claim.number) does result ends Fallen is refl),
      )
      at_end (Err short) is = (
        in-stands before.world claim held holds,
        subst (IsShort rules disk before after) is_finish
            (was-short rules disk before after held.system next (Some held.number) (event.Finish claim.number) does result ends short is),
      )

  pub failed-as : is_offered_function rules before.world claim.tid ≡ false →
      Appends rules before.world held.system next (Some held.number) (event.Fail held.number)
      → FinishedAs rules disk before after claim (finished_of finished.Failed result)
  failed-as offers appends = at_end result refl
    where
      does : Appends rules before.world held.system next (Some held.number) (event.Fail claim.number)
      does = subst (λ n. Appends rules before.world held.system next (Some held.number) (event.Fail n)) number appends

      is_fail : event.Fail claim.number ≡ finish_event rules before.world claim
      is_fail = sym (ap (λ b. cond b (event.Finish claim.number) (event.Fail claim.number)) offers)

      at_end : (r : Result Appended OutOfMemory) → result ≡ r → FinishedAs rules disk before after claim (finished_of finished.Failed r)
      at_end (Ok Written) is = (
        in-stands before.world claim held holds,
        offers,
        was-written rules disk before after held.system next (Some held.number) (event.Fail claim.number) does result ends Written is refl,
      )
      at_end (Ok Fallen) is = (
        in-stands before.world claim held holds,
        subst (FellInstead rules disk before after) is_fail
            (was-fallen rules disk before after held.system next (Some held.number) (event.Fail claim.number) does result ends Fallen is refl),
      )
      at_end (Err short) is = (
        in-stands before.world claim held holds,
        subst (IsShort rules disk before after) is_fail
            (was-short rules disk before after held.system next (Some held.number) (event.Fail claim.number) does result ends short is),
      )
