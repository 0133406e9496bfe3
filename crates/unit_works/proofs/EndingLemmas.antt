-- The work of a claim ends: one more run or execution has ended, and its claim is gone.
use Rattle.std.specs.Prelude.{Result, Ok, Err, IfOk, filter}
use Rattle.std.proofs.Common.{◌≡◌, ◌==◌, ◌+◌, ℕ, not, Bool, true, false, cond, Option, Some, [], ◌∷◌, inl, inr, refl, sym, ap, subst, ◌∙◌, arith}
use Rattle.std.specs.Option.{option_and_then}
use Rattle.std.proofs.lemmas.Bool.{both_ways, cases_Bool, cond_both, not-true}
use Rattle.ale_volumes.specs.Disk.{Disk}
use Rattle.ale_base.specs.declared.way.Way.TheVariants.{Incoming}
use Rattle.unit_core.specs.declared.ale_unit.AleUnit.{AleUnit}
use Rattle.unit_core.specs.declared.records.Record.{Record}
use Rattle.unit_core.specs.declared.records.Record.TheVariants as log
use Rattle.unit_core.specs.Filters.{received, executed, is_marked}
use Rattle.unit_core.specs.Queues.{unit_named, heads_inbound}
use Rattle.unit_core.proofs.TidLemmas.{unit_named-Some}
use Rattle.trfc_protocol.specs.declared.event.Event.TheVariants as event
use Rattle.trfc_protocol.specs.declared.held.Held.{Held}
use Rattle.trfc_protocol.specs.declared.held.HeldKind.{HeldKind}
use Rattle.trfc_protocol.specs.declared.held.HeldKind.TheVariants.{Out, In, Direct}
use Rattle.trfc_protocol.specs.declared.world.World.{World}
use Rattle.trfc_protocol.specs.Happens.{happens}
use Rattle.trfc_protocol.specs.Legal.{IsLawful, is_free_inbound}
use Rattle.trfc_protocol.specs.Meaning.{Meaning}
use Rattle.trfc_protocol.specs.Offered.{offers_received_now}
use Rattle.trfc_protocol.specs.RecordOf.{Writing, record_of, record_of_claim, record_of_failure, record_of_work}
use Rattle.trfc_protocol.specs.Safe.{is_due}
use Rattle.trfc_protocol.specs.Worlds.{committed_unit, is_kind, is_up, log_of, without_claim}
use Rattle.trfc_protocol.proofs.ClaimLemmas.{claim_of-Some}
use Rattle.trfc_protocol.proofs.ForCallers.{claimed_unit}
use Rattle.trfc_protocol.proofs.LegalLemmas.{is_free-parts}
use Rattle.trfc_protocol.proofs.SafeLemmas.{IsRun-due, hold, received-is}
use Rattle.unit_landscape.specs.KeptWorlds.{KeptOf}
use Rattle.unit_landscape.specs.Joining.{after_record}
use Rattle.unit_landscape.specs.declared.answers.Finished.{Finished}
use Rattle.unit_landscape.specs.declared.answers.Finished.TheVariants as finished
use Rattle.unit_landscape.specs.declared.answers.WorkEnd.{WorkEnd}
use Rattle.unit_landscape.specs.declared.answers.WorkEnd.TheVariants as end
use Rattle.unit_landscape.specs.declared.claims.InClaim.{InClaim}
use Rattle.unit_landscape.specs.declared.claims.Receipt.{Receipt}
use Rattle.unit_landscape.specs.Appending.{HoldsIn, at}
use Rattle.unit_landscape.specs.Calls.{FinishedAs, finish_event, is_offered_function, stands_in}
use Rattle.unit_landscape.specs.Ends.{Happened}
use Rattle.unit_landscape.specs.Crashes.{LeavesSound}
use Rattle.unit_landscape.specs.Kept.{IsLandscape}
use Rattle.unit_landscape.proofs.EventLemmas.{event-after, event-up}
use Rattle.unit_landscape.proofs.FinishingLemmas.{direct-appends, execute-appends, executed-record, failed-record, failing, in-found, in-number, in-stands}
use Rattle.unit_works.specs.Events.{is_end}
use Rattle.unit_works.specs.Finished.{finished_in, is_ending}
use Rattle.unit_works.specs.Went.{WentOn}
use Rattle.unit_works.specs.Claims.{AreOrGone}
use Rattle.unit_works.specs.steps.Ending.{FinishedSo, IsDownFor, IsRun, ended_by, ended_of}
use Rattle.unit_works.specs.Trips.{Wholly, execution, one_at, run_at, worked_by}
use Rattle.unit_works.proofs.ClaimLemmas.{held-in}
use Rattle.unit_works.proofs.FellLemmas.{fell-was_cut, finished-fell, gone-fell}
use Rattle.unit_works.proofs.GrowthLemmas.{happened-wholly}
use Rattle.unit_works.proofs.LogLemmas.{if-met, listed}
use Rattle.unit_works.proofs.StateLemmas.{is_step}
use Rattle.unit_works.proofs.WentLemmas.{went-same, went-happened, went-fell, went-short, went-whole}
use Rattle.unit_works.proofs.WorldLemmas.{finished-record, claims-record}

-- a system that was up ended a work, and the claim of this number went
record HasEnded {R : Type 0} (before after : World R) (number : ℕ) : Type 0 where
  system : ℕ
  next : Record
  up : is_up before system ≡ true
  ending : is_ending next ≡ true
  world : after ≡ after_record before system next (Some number)

module _ {R A V : Type 0} (meaning : R → Meaning) (lawful : (r : R) → IsLawful (meaning r)) (before : KeptOf R A V) (is : IsLandscape meaning before.world)
    (claim : InClaim) where
  -- the receiver of a unit that is claimed to be executed is up
  receiver-up : (held : Held) → HoldsIn before.world claim held → (kind : HeldKind) → held.kind ≡ kind → (unit : AleUnit)
      → committed_unit (meaning before.world.rules) before.world held.tid ≡ Some unit
      → is_up before.world unit.receiver ≡ true
  receiver-up held holds In kind unit named =
      let has = (claim_of-Some claim.number before.world.claims held holds.found).0 in
      let its = hold (meaning before.world.rules) (lawful before.world.rules) before.world is.safe held has in
      let l = log_of before.world held.system in
      let free : is_free_inbound l held.tid ≡ true = subst (λ k. is_due (meaning before.world.rules) before.world held k ≡ true) kind its.due in
      let parts = is_free-parts (executed l) (is_marked Incoming held.tid l) (heads_inbound (executed l) (received l)) (unit_named held.tid (received l))
      free in
      let there = unit_named-Some held.tid (received l) parts.0 parts.1 in
      let got = received-is (meaning before.world.rules) (lawful before.world.rules) before.world is.safe held.system parts.0 there.0 in
      let found : committed_unit (meaning before.world.rules) before.world held.tid ≡ Some parts.0 =
      subst (λ t. committed_unit (meaning before.world.rules) before.world t ≡ Some parts.0) there.1 got.1 in
      let same : parts.0 ≡ unit = cc (found, named) in
      subst (λ (u : AleUnit). is_up before.world u.receiver ≡ true) same (subst (λ s. is_up before.world s ≡ true) (sym got.0) its.up)
  receiver-up held holds Direct kind unit named =
      let has = (claim_of-Some claim.number before.world.claims held holds.found).0 in
      let its = hold (meaning before.world.rules) (lawful before.world.rules) before.world is.safe held has in
      let run = IsRun-due (meaning before.world.rules) before.world held.system held.tid
      (subst (λ k. is_due (meaning before.world.rules) before.world held k ≡ true) kind its.due) in
      let same : run.unit ≡ unit = cc (run.named, named) in
      subst (λ (u : AleUnit). is_up before.world u.receiver ≡ true) same (subst (λ s. is_up before.world s ≡ true) (sym run.receiver) its.up)
  receiver-up held holds Out kind unit named = let none = sym holds.kind ∙ ap (λ k. is_kind k Out) kind in absurd (cc)

  -- so where it is down the claim does not stand
  pub stands-up : stands_in before.world claim ≡ true → IsDownFor (meaning before.world.rules) before.world claim.tid → ⊥
  stands-up stands down =
      let there = held-in before.world claim stands in
      let holds = there.1 in
      let has = (claim_of-Some claim.number before.world.claims there.0 holds.found).0 in
      let unit = claimed_unit (meaning before.world.rules) (lawful before.world.rules) before.world is.safe there.0 has in
      both_ways (is_up before.world (unit.0).receiver)
      (down unit.0 (subst (λ t. committed_unit (meaning before.world.rules) before.world t ≡ Some unit.0) holds.its unit.1))
      (receiver-up there.0 holds (there.0).kind refl unit.0 unit.1)

  module _ (disk : Disk V) (after : KeptOf R A V) where
    abbrev Ends : Result Finished WorkEnd → Type 0
    Ends result = FinishedAs (meaning before.world.rules) disk before after claim result

    is_end-finish : is_end (finish_event (meaning before.world.rules) before.world claim) ≡ true
    is_end-finish =
        cond_both (is_offered_function (meaning before.world.rules) before.world claim.tid) (event.Finish claim.number) (event.Fail claim.number)
        (λ e. is_end e ≡ true) (λ _. refl) (λ _. refl)

    is_step-finish : is_step (finish_event (meaning before.world.rules) before.world claim) ≡ true
    is_step-finish =
        cond_both (is_offered_function (meaning before.world.rules) before.world claim.tid) (event.Finish claim.number) (event.Fail claim.number)
        (λ e. is_step e ≡ true) (λ _. refl) (λ _. refl)

    pub went-finished : (disk.told → LeavesSound meaning disk before after) → (result : Result Finished WorkEnd) → Ends result →
        (result ≡ Err end.OutOfMemory → ⊥) → WentOn meaning disk is_end true before after
    went-finished leaves (Ok (finished.Executed receipt)) did other =
        went-happened meaning lawful disk is_end before after is leaves true (event.Finish claim.number) refl refl did.2
    went-finished leaves (Ok finished.Failed) did other = went-happened meaning lawful disk is_end before after is leaves true
        (event.Fail claim.number) refl refl did.2
    went-finished leaves (Ok finished.Down) did other =
        went-fell meaning lawful disk is_end before after is leaves (λ system kept works. works) true
        (finish_event (meaning before.world.rules) before.world claim) is_step-finish did.1
    went-finished leaves (Err end.Stale) did other = went-same meaning disk is_end true before after did.1
    went-finished leaves (Err end.OutOfMemory) did other = absurd (other refl)

    -- the same where memory may be wanting
    pub went-finished_short : (disk.told → LeavesSound meaning disk before after) → (result : Result Finished WorkEnd) → Ends result →
        WentOn meaning disk is_end false before after
    went-finished_short leaves (Ok given) did = went-whole meaning disk is_end false before after (went-finished leaves (Ok given) did (λ is. cc))
    went-finished_short leaves (Err end.Stale) did = went-same meaning disk is_end false before after did.1
    went-finished_short leaves (Err end.OutOfMemory) did =
        went-short meaning lawful disk is_end before after is leaves (λ system kept works. works) (finish_event (meaning before.world.rules) before.world claim)
        is_step-finish is_end-finish did.1

    -- the record of an execution or a run
    executed-ended : (held : Held) → HoldsIn before.world claim held → (kind : HeldKind) → held.kind ≡ kind
        → is_offered_function (meaning before.world.rules) before.world claim.tid ≡ true
        → after.world ≡ happens (meaning before.world.rules) before.world (event.Finish claim.number) → HasEnded before.world after.world claim.number
    executed-ended held holds In kind offered same =
        let number = in-number before.world claim held holds in
        let appends = execute-appends (meaning before.world.rules) (lawful before.world.rules) before.world is.safe held
        (in-found before.world claim held holds) kind
        (ap (is_offered_function (meaning before.world.rules) before.world) holds.its ∙ offered) in
        record {
          system = held.system;
          next = log.Execute held.tid;
          up = event-up (meaning before.world.rules) (lawful before.world.rules) before.world is.safe is.writable (event.Finish held.number) held.system
              (log.Execute held.tid) (Some held.number) appends;
          ending = refl;
          world = same ∙ ap (λ n. happens (meaning before.world.rules) before.world (event.Finish n)) (sym number)
              ∙ event-after (meaning before.world.rules) (lawful before.world.rules) before.world is.safe is.writable (event.Finish held.number) held.system
              (log.Execute held.tid) (Some held.number) appends
              ∙ ap (λ n. after_record before.world held.system (log.Execute held.tid) (Some n)) number;
        }
    executed-ended held holds Direct kind offered same =
        let number = in-number before.world claim held holds in
        let has = (claim_of-Some claim.number before.world.claims held holds.found).0 in
        let unit = claimed_unit (meaning before.world.rules) (lawful before.world.rules) before.world is.safe held has in
        let appends = direct-appends (meaning before.world.rules) (lawful before.world.rules) before.world is.safe held
        (in-found before.world claim held holds) kind unit.0 unit.1 in
        record {
          system = held.system;
          next = log.Direct unit.0;
          up = event-up (meaning before.world.rules) (lawful before.world.rules) before.world is.safe is.writable (event.Finish held.number) held.system
              (log.Direct unit.0) (Some held.number) appends;
          ending = refl;
          world = same ∙ ap (λ n. happens (meaning before.world.rules) before.world (event.Finish n)) (sym number)
              ∙ event-after (meaning before.world.rules) (lawful before.world.rules) before.world is.safe is.writable (event.Finish held.number) held.system
              (log.Direct unit.0) (Some held.number) appends
              ∙ ap (λ n. after_record before.world held.system (log.Direct unit.0) (Some n)) number;
        }
    executed-ended held holds Out kind offered same = let none = sym holds.kind ∙ ap (λ k. is_kind k Out) kind in absurd (cc)

    -- the record of a failure
    failed-ended : (held : Held) → HoldsIn before.world claim held → is_offered_function (meaning before.world.rules) before.world claim.tid ≡ false
        → after.world ≡ happens (meaning before.world.rules) before.world (event.Fail claim.number) → HasEnded before.world after.world claim.number
    failed-ended held holds offered same =
        let number = in-number before.world claim held holds in
        let appends = failing (meaning before.world.rules) (lawful before.world.rules) before.world is.safe claim held holds offered in
        record {
          system = held.system;
          next = log.Fail held.tid;
          up = event-up (meaning before.world.rules) (lawful before.world.rules) before.world is.safe is.writable (event.Fail held.number) held.system
              (log.Fail held.tid) (Some held.number) appends;
          ending = refl;
          world = same ∙ ap (λ n. happens (meaning before.world.rules) before.world (event.Fail n)) (sym number)
              ∙ event-after (meaning before.world.rules) (lawful before.world.rules) before.world is.safe is.writable (event.Fail held.number) held.system
              (log.Fail held.tid) (Some held.number) appends
              ∙ ap (λ n. after_record before.world held.system (log.Fail held.tid) (Some n)) number;
        }

    executed-is : stands_in before.world claim ≡ true → is_offered_function (meaning before.world.rules) before.world claim.tid ≡ true
        → Happened (meaning before.world.rules) disk before after (event.Finish claim.number) → HasEnded before.world after.world claim.number
    executed-is stands offered did = let there = held-in before.world claim stands in executed-ended there.0 there.1 (there.0).kind refl offered did.world

    failed-is : stands_in before.world claim ≡ true → is_offered_function (meaning before.world.rules) before.world claim.tid ≡ false
        → Happened (meaning before.world.rules) disk before after (event.Fail claim.number) → HasEnded before.world after.world claim.number
    failed-is stands offered did = let there = held-in before.world claim stands in failed-ended there.0 there.1 offered did.world

    one-ended : HasEnded before.world after.world claim.number → finished_in after.world ≡ finished_in before.world + 1
    one-ended ended =
        ap finished_in ended.world ∙ finished-record before.world ended.system ended.next (Some claim.number) ended.up
        ∙ ap (λ b. finished_in before.world + cond b 1 0) ended.ending

    same-count : after ≡ before → finished_in after.world ≡ finished_in before.world + 0
    same-count same = let count = ap (λ (k : KeptOf R A V). finished_in k.world) same in omega (arith, count)

    -- one more has ended where the work was done or failed
    pub finished-finished : (result : Result Finished WorkEnd) → Ends result
        → IfOk (ended_of result) (λ given. finished_in after.world ≡ finished_in before.world + ended_by given)
    finished-finished (Ok (finished.Executed receipt)) did = one-ended (executed-is did.0 did.1 did.2)
    finished-finished (Ok finished.Failed) did = one-ended (failed-is did.0 did.1 did.2)
    finished-finished (Ok finished.Down) did =
        let count = finished-fell meaning lawful disk before after is (finish_event (meaning before.world.rules) before.world claim) did.1 in omega
        (arith, count)
    finished-finished (Err end.Stale) did = same-count did.1
    finished-finished (Err end.OutOfMemory) did = tt

    claims-ended : HasEnded before.world after.world claim.number
        → after.world.claims ≡ filter (λ (h : Held). not (h.number == claim.number)) before.world.claims
    claims-ended ended = ap (λ (w : World R). w.claims) ended.world ∙ claims-record before.world ended.system ended.next (Some claim.number)

    -- the claim of a work that ends goes, or all do
    pub left-finished : (result : Result Finished WorkEnd) → Ends result
        → IfOk (ended_of result) (λ given. stands_in before.world claim ≡ true
        → AreOrGone before.world after.world (without_claim before.world claim.number).claims)
    left-finished (Ok (finished.Executed receipt)) did = λ stands. inl (claims-ended (executed-is did.0 did.1 did.2))
    left-finished (Ok finished.Failed) did = λ stands. inl (claims-ended (failed-is did.0 did.1 did.2))
    left-finished (Ok finished.Down) did = λ stands.
        gone-fell meaning lawful disk before after is (finish_event (meaning before.world.rules) before.world claim) did.1
        (filter (λ (h : Held). not (h.number == claim.number)) before.world.claims)
    left-finished (Err end.Stale) did = λ stands. absurd (both_ways (stands_in before.world claim) did.0 stands)
    left-finished (Err end.OutOfMemory) did = tt

    -- ---- what is appended

    -- what a claim to execute a unit appends, and what one to run it
    worked-in : (held : Held) → held.kind ≡ In → (offered : Bool) → offers_received_now (meaning before.world.rules) before.world held.system held.tid ≡ offered
        → execution offered held.system held.tid ≡ worked_by (meaning before.world.rules) before.world held held.kind
    worked-in held kind offered offers =
        sym (ap (worked_by (meaning before.world.rules) before.world held) kind ∙ ap (λ b. execution b held.system held.tid) offers)

    worked-direct : (held : Held) → held.kind ≡ Direct → (unit : AleUnit) → committed_unit (meaning before.world.rules) before.world held.tid ≡ Some unit
        → one_at held.system (log.Direct unit) ≡ worked_by (meaning before.world.rules) before.world held held.kind
    worked-direct held kind unit named =
        sym (ap (worked_by (meaning before.world.rules) before.world held) kind ∙ ap (run_at held.system) named)

    -- the record of a claim is by its kind
    of-claim : (held : Held) → HoldsIn before.world claim held → (kind : HeldKind) → held.kind ≡ kind → (pick : Held → HeldKind → Option Writing)
        → record_of_claim before.world pick claim.number ≡ pick held kind
    of-claim held holds kind is pick = ap (option_and_then (λ (h : Held). pick h h.kind)) holds.found ∙ ap (pick held) is

    -- the record of an execution or a run
    executed-lists : (held : Held) → HoldsIn before.world claim held → (kind : HeldKind) → held.kind ≡ kind
        → is_offered_function (meaning before.world.rules) before.world claim.tid ≡ true
        → (it : Writing) × (record_of (meaning before.world.rules) before.world (event.Finish claim.number) ≡ Some it)
        × (it ∷ [] ≡ worked_by (meaning before.world.rules) before.world held held.kind)
    executed-lists held holds In kind offered =
        let rules : Meaning = meaning before.world.rules in
        let appends = execute-appends rules (lawful before.world.rules) before.world is.safe held (in-found before.world claim held holds) kind
        (ap (is_offered_function rules before.world) holds.its ∙ offered) in
        let writes = executed-record rules before.world claim held holds (log.Execute held.tid) appends in
        let offers = if-met (offers_received_now rules before.world held.system held.tid) held.system (log.Execute held.tid)
        (at held.system (log.Execute held.tid))
        (sym (of-claim held holds In kind (record_of_work rules before.world)) ∙ writes) in
        (at held.system (log.Execute held.tid), writes, worked-in held kind true offers)
    executed-lists held holds Direct kind offered =
        let rules : Meaning = meaning before.world.rules in
        let has = (claim_of-Some claim.number before.world.claims held holds.found).0 in
        let unit = claimed_unit rules (lawful before.world.rules) before.world is.safe held has in
        let appends = direct-appends rules (lawful before.world.rules) before.world is.safe held (in-found before.world claim held holds) kind unit.0 unit.1 in
        let writes = executed-record rules before.world claim held holds (log.Direct unit.0) appends in
        (at held.system (log.Direct unit.0), writes, worked-direct held kind unit.0 unit.1)
    executed-lists held holds Out kind offered = let none = sym holds.kind ∙ ap (λ k. is_kind k Out) kind in absurd (cc)

    failed-writes : (held : Held) → HoldsIn before.world claim held → is_offered_function (meaning before.world.rules) before.world claim.tid ≡ false
        → record_of (meaning before.world.rules) before.world (event.Fail claim.number) ≡ Some (at held.system (log.Fail held.tid))
    failed-writes held holds offered =
        failed-record (meaning before.world.rules) before.world claim held holds (log.Fail held.tid)
        (failing (meaning before.world.rules) (lawful before.world.rules) before.world is.safe claim held holds offered)

    -- the record of a failure
    failed-lists : (held : Held) → HoldsIn before.world claim held → (kind : HeldKind) → held.kind ≡ kind
        → is_offered_function (meaning before.world.rules) before.world claim.tid ≡ false
        → (at held.system (log.Fail held.tid) ∷ [] ≡ worked_by (meaning before.world.rules) before.world held held.kind)
        × IsRun held.kind claim.tid finished.Failed
    failed-lists held holds In kind offered =
        let rules : Meaning = meaning before.world.rules in
        let writes = failed-writes held holds offered in
        let other = if-met (not (offers_received_now rules before.world held.system held.tid)) held.system (log.Fail held.tid)
        (at held.system (log.Fail held.tid))
        (sym (of-claim held holds In kind (record_of_failure rules before.world)) ∙ writes) in (
          worked-in held kind false (not-true (offers_received_now rules before.world held.system held.tid) other),
          subst (λ k. IsRun k claim.tid finished.Failed) (sym kind) tt,
        )
    failed-lists held holds Direct kind offered =
        let none = sym (of-claim held holds Direct kind (record_of_failure (meaning before.world.rules) before.world)) ∙ failed-writes held holds
        offered in absurd
        (cc)
    failed-lists held holds Out kind offered = let none = sym holds.kind ∙ ap (λ k. is_kind k Out) kind in absurd (cc)

    -- the record of the work, whether it is done or fails
    finish-lists : (held : Held) → HoldsIn before.world claim held
        → listed (record_of (meaning before.world.rules) before.world (finish_event (meaning before.world.rules) before.world claim))
        ≡ worked_by (meaning before.world.rules) before.world held held.kind
    finish-lists held holds = elim (cases_Bool (is_offered_function (meaning before.world.rules) before.world claim.tid)) [
      | inl offered ↦
          let lists = executed-lists held holds held.kind refl offered in
          ap (λ b. listed (record_of (meaning before.world.rules) before.world (cond b (event.Finish claim.number) (event.Fail claim.number)))) offered
          ∙ ap listed lists.1 ∙ lists.2
      | inr other ↦
          ap (λ b. listed (record_of (meaning before.world.rules) before.world (cond b (event.Finish claim.number) (event.Fail claim.number)))) other
          ∙ ap listed (failed-writes held holds other) ∙ (failed-lists held holds held.kind refl other).0
    ]

    executed-run : (held : Held) (kind : HeldKind) → held.kind ≡ kind → (receipt : Receipt) → receipt.tid ≡ claim.tid
        → IsRun held.kind claim.tid (finished.Executed receipt)
    executed-run held In kind receipt its = subst (λ k. IsRun k claim.tid (finished.Executed receipt)) (sym kind) tt
    executed-run held Out kind receipt its = subst (λ k. IsRun k claim.tid (finished.Executed receipt)) (sym kind) tt
    executed-run held Direct kind receipt its = subst (λ k. IsRun k claim.tid (finished.Executed receipt)) (sym kind) its

    -- the record of the work is appended, and the claim is gone; or the system fell in its place
    pub has-finished : (held : Held) → HoldsIn before.world claim held → (result : Result Finished WorkEnd) → Ends result
        → IfOk (ended_of result) (FinishedSo (meaning before.world.rules) before after claim held)
    has-finished held holds (Ok (finished.Executed receipt)) did =
        let lists = executed-lists held holds held.kind refl did.1 in
        inl (record {
          grew = subst (Wholly before.world after.world) lists.2
              (happened-wholly meaning lawful disk before after is (event.Finish claim.number) refl (Some lists.0) lists.1 did.2);
          claims = claims-ended (executed-is did.0 did.1 did.2);
          run = executed-run held held.kind refl receipt did.3;
          ended = refl;
        })
    has-finished held holds (Ok finished.Failed) did =
        let lists = failed-lists held holds held.kind refl did.1 in
        inl (record {
          grew = subst (Wholly before.world after.world) lists.0
              (happened-wholly meaning lawful disk before after is (event.Fail claim.number) refl (Some (at held.system (log.Fail held.tid)))
              (failed-writes held holds did.1) did.2);
          claims = claims-ended (failed-is did.0 did.1 did.2);
          run = lists.1;
          ended = refl;
        })
    has-finished held holds (Ok finished.Down) did = inr (
      fell-was_cut meaning lawful disk before after is (finish_event (meaning before.world.rules) before.world claim) did.1
          (worked_by (meaning before.world.rules) before.world held held.kind) (finish-lists held holds),
      refl,
    )
    has-finished held holds (Err end.Stale) did = absurd (both_ways (stands_in before.world claim) did.0 (in-stands before.world claim held holds))
    has-finished held holds (Err end.OutOfMemory) did = tt
