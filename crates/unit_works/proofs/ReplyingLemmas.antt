-- A shipment is replied to: nothing has ended, and its claim is gone.
use Rattle.std.specs.Prelude.{Result, Ok, Err, filter}
use Rattle.std.proofs.Common.{◌≡◌, ◌==◌, ◌+◌, ◌&&◌, ℕ, not, Bool, true, false, cond, Option, Some, None, inl, refl, sym, ap, subst, ◌∙◌, arith}
use Rattle.std.proofs.lemmas.Bool.{both_ways, cond_both}
use Rattle.ale_volumes.specs.Disk.{Disk}
use Rattle.ale_base.specs.Tid.{TidOf, is_tid}
use Rattle.ale_base.specs.declared.mark.Mark.TheVariants.{Cpicerr, Sysfail}
use Rattle.unit_core.specs.declared.records.Record.{Record}
use Rattle.unit_core.specs.declared.records.Record.TheVariants as log
use Rattle.trfc_protocol.specs.declared.event.CoreAnswer.{CoreAnswer}
use Rattle.trfc_protocol.specs.declared.event.CoreAnswer.TheVariants as core
use Rattle.trfc_protocol.specs.declared.event.Event.{Event}
use Rattle.trfc_protocol.specs.declared.event.Event.TheVariants as event
use Rattle.trfc_protocol.specs.declared.event.ReplyTo.TheVariants.{Claim}
use Rattle.trfc_protocol.specs.declared.held.Held.{Held}
use Rattle.trfc_protocol.specs.declared.world.World.{World}
use Rattle.trfc_protocol.specs.Happens.{happens}
use Rattle.trfc_protocol.specs.Legal.{IsLawful}
use Rattle.trfc_protocol.specs.Meaning.{Meaning}
use Rattle.trfc_protocol.specs.RecordOf.{record_of}
use Rattle.trfc_protocol.specs.Worlds.{without_claim}
use Rattle.trfc_protocol.proofs.ClaimLemmas.{claim_of-Some}
use Rattle.trfc_protocol.proofs.ForCallers.{shipped_by}
use Rattle.unit_landscape.specs.KeptWorlds.{KeptOf}
use Rattle.unit_landscape.specs.Joining.{after_record}
use Rattle.unit_landscape.specs.declared.answers.Replied.{Replied}
use Rattle.unit_landscape.specs.declared.answers.Replied.TheVariants as replied
use Rattle.unit_landscape.specs.declared.answers.Reply.{Reply}
use Rattle.unit_landscape.specs.declared.answers.Reply.TheVariants as reply
use Rattle.unit_landscape.specs.declared.answers.WorkEnd.{WorkEnd}
use Rattle.unit_landscape.specs.declared.answers.WorkEnd.TheVariants as end
use Rattle.unit_landscape.specs.declared.claims.OutClaim.{OutClaim}
use Rattle.unit_landscape.specs.Appending.{HoldsOut, record_of_receipt, record_of_refusal}
use Rattle.unit_landscape.specs.Calls.{RepliedAs, is_refused, reply_event, stands_out, was_received}
use Rattle.unit_landscape.specs.Ends.{Happened}
use Rattle.unit_landscape.specs.Crashes.{LeavesSound}
use Rattle.unit_landscape.specs.Kept.{IsLandscape}
use Rattle.unit_landscape.specs.Writes.{Appends}
use Rattle.unit_landscape.proofs.EventLemmas.{event-after, event-up}
use Rattle.unit_landscape.proofs.ReplyingLemmas.{busy-after, busy-none, lost-appends, out-number, receipt-appends, refusal-appends}
use Rattle.unit_works.specs.Events.{is_reply}
use Rattle.unit_works.specs.Finished.{finished_in, is_ending}
use Rattle.unit_works.specs.Went.{WentOn}
use Rattle.unit_works.specs.Claims.{AreOrGone}
use Rattle.unit_works.specs.Trips.{Appended, Wholly, noted_of, one_at}
use Rattle.unit_works.specs.steps.Arriving.{event_of}
use Rattle.unit_works.proofs.ClaimLemmas.{held-out}
use Rattle.unit_works.proofs.FellLemmas.{fell-was_cut, finished-fell, gone-fell}
use Rattle.unit_works.proofs.GrowthLemmas.{happened-wholly}
use Rattle.unit_works.proofs.LogLemmas.{listed}
use Rattle.unit_works.proofs.StateLemmas.{is_step}
use Rattle.unit_works.proofs.WentLemmas.{went-same, went-happened, went-fell, went-short, went-whole}
use Rattle.unit_works.proofs.WorldLemmas.{finished-record, claims-record}

-- the claim of this number went, and nothing has ended
record HasClosed {R : Type 0} (before after : World R) (number : ℕ) : Type 0 where
  count : finished_in after ≡ finished_in before
  claims : after.claims ≡ filter (λ (h : Held). not (h.number == number)) before.claims

module _ {R A V : Type 0} (meaning : R → Meaning) (lawful : (r : R) → IsLawful (meaning r)) (before : KeptOf R A V) (is : IsLandscape meaning before.world)
    (claim : OutClaim) (given : Reply) (disk : Disk V) (after : KeptOf R A V) where
  abbrev ItsEvent : Event
  ItsEvent = reply_event (meaning before.world.rules) before.world claim given

  -- the event of a reply goes with it
  is_reply-event : (answer : Reply) → is_reply answer (reply_event (meaning before.world.rules) before.world claim answer) ≡ true
  is_reply-event (reply.Done receipt) =
      cond_both (is_tid receipt.tid claim.tid && was_received (meaning before.world.rules) before.world claim.tid)
      (event.Reply (Claim claim.number core.Done)) (event.LoseReply claim.number) (λ e. is_reply (reply.Done receipt) e ≡ true) (λ _. refl) (λ _. refl)
  is_reply-event reply.SysFail =
      cond_both (is_refused (meaning before.world.rules) before.world claim.tid)
      (event.Reply (Claim claim.number core.SysFail)) (event.LoseReply claim.number) (λ e. is_reply reply.SysFail e ≡ true) (λ _. refl) (λ _. refl)
  is_reply-event reply.Lost = refl
  is_reply-event reply.Busy = refl

  step-reply : (answer : Reply) → is_step (reply_event (meaning before.world.rules) before.world claim answer) ≡ true
  step-reply (reply.Done receipt) =
      cond_both (is_tid receipt.tid claim.tid && was_received (meaning before.world.rules) before.world claim.tid)
      (event.Reply (Claim claim.number core.Done)) (event.LoseReply claim.number) (λ e. is_step e ≡ true) (λ _. refl) (λ _. refl)
  step-reply reply.SysFail =
      cond_both (is_refused (meaning before.world.rules) before.world claim.tid)
      (event.Reply (Claim claim.number core.SysFail)) (event.LoseReply claim.number) (λ e. is_step e ≡ true) (λ _. refl) (λ _. refl)
  step-reply reply.Lost = refl
  step-reply reply.Busy = refl

  pub went-replied : (disk.told → LeavesSound meaning disk before after) → (result : Result Replied WorkEnd) →
      RepliedAs (meaning before.world.rules) disk before after claim given result
      → (result ≡ Err end.OutOfMemory → ⊥) → WentOn meaning disk (is_reply given) true before after
  went-replied leaves (Ok replied.Recorded) did other =
      went-happened meaning lawful disk (is_reply given) before after is leaves true ItsEvent (step-reply given) (is_reply-event given) did.2
  went-replied leaves (Ok replied.Released) did other =
      went-happened meaning lawful disk (is_reply given) before after is leaves true ItsEvent (step-reply given) (is_reply-event given) did.2
  went-replied leaves (Ok replied.Down) did other =
      went-fell meaning lawful disk (is_reply given) before after is leaves (λ system kept works. works) true ItsEvent (step-reply given) did.1
  went-replied leaves (Err end.Stale) did other = went-same meaning disk (is_reply given) true before after did.1
  went-replied leaves (Err end.OutOfMemory) did other = absurd (other refl)

  -- the same where memory may be wanting
  pub went-replied_short : (disk.told → LeavesSound meaning disk before after) → (result : Result Replied WorkEnd) →
      RepliedAs (meaning before.world.rules) disk before after claim given result
      → WentOn meaning disk (is_reply given) false before after
  went-replied_short leaves (Ok done) did = went-whole meaning disk (is_reply given) false before after (went-replied leaves (Ok done) did (λ is. cc))
  went-replied_short leaves (Err end.Stale) did = went-same meaning disk (is_reply given) false before after did.1
  went-replied_short leaves (Err end.OutOfMemory) did =
      went-short meaning lawful disk (is_reply given) before after is leaves (λ system kept works. works) ItsEvent (step-reply given)
      (is_reply-event given) did.1

  -- the record of a reply
  closed-by : (held : Held) → HoldsOut before.world claim held → (e : Event) (next : Record)
      → Appends (meaning before.world.rules) before.world held.system next (Some held.number) e
      → is_ending next ≡ false → after.world ≡ happens (meaning before.world.rules) before.world e → HasClosed before.world after.world claim.number
  closed-by held holds e next appends plain same =
      let up = event-up (meaning before.world.rules) (lawful before.world.rules) before.world is.safe is.writable e held.system next (Some held.number)
      appends in
      let world : after.world ≡ after_record before.world held.system next (Some held.number) =
      same ∙ event-after (meaning before.world.rules) (lawful before.world.rules) before.world is.safe is.writable e held.system next (Some held.number)
      appends in
      let count : finished_in after.world ≡ finished_in before.world + 0 =
      ap finished_in world ∙ finished-record before.world held.system next (Some held.number) up ∙ ap (λ b. finished_in before.world + cond b 1 0) plain in
      record {
        count = omega (arith, count);
        claims = ap (λ (w : World R). w.claims) world ∙ claims-record before.world held.system next (Some held.number)
            ∙ ap (λ n. filter (λ (h : Held). not (h.number == n)) before.world.claims) (out-number before.world claim held holds);
      }

  recorded : (held : Held) → HoldsOut before.world claim held → (answer : Reply) → (answer ≡ reply.Busy → ⊥)
      → after.world ≡ happens (meaning before.world.rules) before.world (reply_event (meaning before.world.rules) before.world claim answer)
      → HasClosed before.world after.world claim.number
  recorded held holds (reply.Done receipt) other same =
      let counts = is_tid receipt.tid held.tid && was_received (meaning before.world.rules) before.world held.tid in
      closed-by held holds (reply_event (meaning before.world.rules) before.world claim (reply.Done receipt)) (record_of_receipt held.tid counts)
      (receipt-appends (meaning before.world.rules) (lawful before.world.rules) before.world is.safe claim held holds receipt counts refl)
      (cond_both counts (log.Done held.tid) (log.Mark held.tid Cpicerr) (λ next. is_ending next ≡ false) (λ _. refl) (λ _. refl)) same
  recorded held holds reply.SysFail other same =
      let refused = is_refused (meaning before.world.rules) before.world held.tid in
      closed-by held holds (reply_event (meaning before.world.rules) before.world claim reply.SysFail) (record_of_refusal held.tid refused)
      (refusal-appends (meaning before.world.rules) (lawful before.world.rules) before.world is.safe claim held holds refused refl) refl same
  recorded held holds reply.Lost other same =
      closed-by held holds (reply_event (meaning before.world.rules) before.world claim reply.Lost) (log.Mark held.tid Cpicerr)
      (lost-appends (meaning before.world.rules) (lawful before.world.rules) before.world is.safe claim held holds) refl same
  recorded held holds reply.Busy other same = absurd (other refl)

  -- a claim that is given up
  released : given ≡ reply.Busy → stands_out before.world claim ≡ true → Happened (meaning before.world.rules) disk before after ItsEvent
      → HasClosed before.world after.world claim.number
  released busy stands did =
      let there = held-out before.world claim stands in
      let held : Held = there.0 in
      let world : after.world ≡ without_claim before.world held.number =
      did.world ∙ ap (λ (r : Reply). happens (meaning before.world.rules) before.world (reply_event (meaning before.world.rules) before.world claim r)) busy
      ∙ busy-after before.world claim held there.1 (meaning before.world.rules) in
      record {
        count = ap finished_in world;
        claims = ap (λ (w : World R). w.claims) world
            ∙ ap (λ n. filter (λ (h : Held). not (h.number == n)) before.world.claims) (out-number before.world claim held there.1);
      }

  recorded-is : stands_out before.world claim ≡ true → (given ≡ reply.Busy → ⊥) → Happened (meaning before.world.rules) disk before after ItsEvent
      → HasClosed before.world after.world claim.number
  recorded-is stands other did = let there = held-out before.world claim stands in recorded there.0 there.1 given other did.world

  pub finished-replied : (result : Result Replied WorkEnd) → RepliedAs (meaning before.world.rules) disk before after claim given result
      → (result ≡ Err end.OutOfMemory → ⊥) → finished_in after.world ≡ finished_in before.world
  finished-replied (Ok replied.Recorded) did other = let closed = recorded-is did.0 did.1 did.2 in closed.count
  finished-replied (Ok replied.Released) did other = let closed = released did.1 did.0 did.2 in closed.count
  finished-replied (Ok replied.Down) did other = finished-fell meaning lawful disk before after is ItsEvent did.1
  finished-replied (Err end.Stale) did other = let same = did.1 in ap (λ (k : KeptOf R A V). finished_in k.world) same
  finished-replied (Err end.OutOfMemory) did other = absurd (other refl)

  -- ---- the claims

  -- that of the reply goes, or all do
  pub left-replied : (result : Result Replied WorkEnd) → RepliedAs (meaning before.world.rules) disk before after claim given result
      → (result ≡ Err end.OutOfMemory → ⊥) → stands_out before.world claim ≡ true
      → AreOrGone before.world after.world (without_claim before.world claim.number).claims
  left-replied (Ok replied.Recorded) did other stands = let closed = recorded-is did.0 did.1 did.2 in inl closed.claims
  left-replied (Ok replied.Released) did other stands = let closed = released did.1 did.0 did.2 in inl closed.claims
  left-replied (Ok replied.Down) did other stands =
      gone-fell meaning lawful disk before after is ItsEvent did.1 (filter (λ (h : Held). not (h.number == claim.number)) before.world.claims)
  left-replied (Err end.Stale) did other stands = absurd (both_ways (stands_out before.world claim) did.0 stands)
  left-replied (Err end.OutOfMemory) did other stands = absurd (other refl)

  -- ---- what is appended

  -- the event says what the sender learnt
  learnt-done : (learnt : Option CoreAnswer) → event.Reply (Claim claim.number core.Done) ≡ event_of learnt claim.number → learnt ≡ Some core.Done
  learnt-done (Some core.Done) same = refl
  learnt-done (Some core.Busy) same = cc
  learnt-done (Some core.SysFail) same = cc
  learnt-done None same = cc

  learnt-refused : (learnt : Option CoreAnswer) → event.Reply (Claim claim.number core.SysFail) ≡ event_of learnt claim.number → learnt ≡ Some core.SysFail
  learnt-refused (Some core.SysFail) same = refl
  learnt-refused (Some core.Busy) same = cc
  learnt-refused (Some core.Done) same = cc
  learnt-refused None same = cc

  learnt-busy : (learnt : Option CoreAnswer) → event.Reply (Claim claim.number core.Busy) ≡ event_of learnt claim.number → learnt ≡ Some core.Busy
  learnt-busy (Some core.Busy) same = refl
  learnt-busy (Some core.Done) same = cc
  learnt-busy (Some core.SysFail) same = cc
  learnt-busy None same = cc

  learnt-lost : (learnt : Option CoreAnswer) → event.LoseReply claim.number ≡ event_of learnt claim.number → learnt ≡ None
  learnt-lost None same = refl
  learnt-lost (Some core.Busy) same = cc
  learnt-lost (Some core.Done) same = cc
  learnt-lost (Some core.SysFail) same = cc

  module _ (held : Held) (holds : HoldsOut before.world claim held) (learnt : Option CoreAnswer) where
    abbrev Notes : Reply → Type 0
    Notes answer =
        reply_event (meaning before.world.rules) before.world claim answer ≡ event_of learnt claim.number
        → listed (record_of (meaning before.world.rules) before.world (reply_event (meaning before.world.rules) before.world claim answer))
        ≡ noted_of learnt claim.tid

    here : held.system ≡ claim.tid.system
    here =
        shipped_by (meaning before.world.rules) (lawful before.world.rules) before.world is.safe held
        (claim_of-Some claim.number before.world.claims held holds.found).0 holds.kind
        ∙ ap (λ (t : TidOf). t.system) holds.its

    -- a record of the sender on the unit of the claim
    of_claim : (next : TidOf → Record) → one_at held.system (next held.tid) ≡ one_at claim.tid.system (next claim.tid)
    of_claim next = ap (λ s. one_at s (next held.tid)) here ∙ ap (λ t. one_at claim.tid.system (next t)) holds.its

    noted-lost : learnt ≡ None → one_at held.system (log.Mark held.tid Cpicerr) ≡ noted_of learnt claim.tid
    noted-lost none = of_claim (λ t. log.Mark t Cpicerr) ∙ sym (ap (λ l. noted_of l claim.tid) none)

    noted : (answer : Reply) → Notes answer
    noted (reply.Done receipt) same = by_count (is_tid receipt.tid claim.tid && was_received (meaning before.world.rules) before.world claim.tid) refl
      where
        by_count : (b : Bool) → (is_tid receipt.tid claim.tid && was_received (meaning before.world.rules) before.world claim.tid) ≡ b
            → listed (record_of (meaning before.world.rules) before.world (reply_event (meaning before.world.rules) before.world claim (reply.Done receipt)))
            ≡ noted_of learnt claim.tid
        by_count true counts =
            let appends = receipt-appends (meaning before.world.rules) (lawful before.world.rules) before.world is.safe claim held holds receipt true
            (sym counts ∙ ap (λ t. is_tid receipt.tid t && was_received (meaning before.world.rules) before.world t) (sym holds.its)) in
            let its = learnt-done learnt (sym (ap (λ b. cond b (event.Reply (Claim claim.number core.Done)) (event.LoseReply claim.number)) counts) ∙ same) in
            ap listed appends.writes ∙ of_claim log.Done ∙ sym (ap (λ l. noted_of l claim.tid) its)
        by_count false counts =
            let appends = receipt-appends (meaning before.world.rules) (lawful before.world.rules) before.world is.safe claim held holds receipt false
            (sym counts ∙ ap (λ t. is_tid receipt.tid t && was_received (meaning before.world.rules) before.world t) (sym holds.its)) in
            let its = learnt-lost learnt (sym (ap (λ b. cond b (event.Reply (Claim claim.number core.Done)) (event.LoseReply claim.number)) counts) ∙ same) in
            ap listed appends.writes ∙ noted-lost its
    noted reply.SysFail same = by_refusal (is_refused (meaning before.world.rules) before.world claim.tid) refl
      where
        by_refusal : (b : Bool) → is_refused (meaning before.world.rules) before.world claim.tid ≡ b
            → listed (record_of (meaning before.world.rules) before.world (reply_event (meaning before.world.rules) before.world claim reply.SysFail))
            ≡ noted_of learnt claim.tid
        by_refusal true refused =
            let appends = refusal-appends (meaning before.world.rules) (lawful before.world.rules) before.world is.safe claim held holds true
            (sym refused ∙ ap (is_refused (meaning before.world.rules) before.world) (sym holds.its)) in
            let its = learnt-refused learnt
            (sym (ap (λ b. cond b (event.Reply (Claim claim.number core.SysFail)) (event.LoseReply claim.number)) refused) ∙ same) in
            ap listed appends.writes ∙ of_claim (λ t. log.Mark t Sysfail) ∙ sym (ap (λ l. noted_of l claim.tid) its)
        by_refusal false refused =
            let appends = refusal-appends (meaning before.world.rules) (lawful before.world.rules) before.world is.safe claim held holds false
            (sym refused ∙ ap (is_refused (meaning before.world.rules) before.world) (sym holds.its)) in
            let its = learnt-lost learnt
            (sym (ap (λ b. cond b (event.Reply (Claim claim.number core.SysFail)) (event.LoseReply claim.number)) refused) ∙ same) in
            ap listed appends.writes ∙ noted-lost its
    noted reply.Lost same =
        let appends = lost-appends (meaning before.world.rules) (lawful before.world.rules) before.world is.safe claim held holds in
        ap listed appends.writes ∙ noted-lost (learnt-lost learnt same)
    noted reply.Busy same =
        ap listed (busy-none before.world claim held holds (meaning before.world.rules)) ∙ sym (ap (λ l. noted_of l claim.tid) (learnt-busy learnt same))

  -- the sender appends what it notes of what it learnt, unless it falls in its place
  pub appended-replied : (learnt : Option CoreAnswer) → stands_out before.world claim ≡ true
      → reply_event (meaning before.world.rules) before.world claim given ≡ event_of learnt claim.number
      → (result : Result Replied WorkEnd) → RepliedAs (meaning before.world.rules) disk before after claim given result
      → (result ≡ Err end.OutOfMemory → ⊥) → Appended before after (noted_of learnt claim.tid)
  appended-replied learnt stands same result did other = by_end result did other
    where
      lists : listed (record_of (meaning before.world.rules) before.world ItsEvent) ≡ noted_of learnt claim.tid
      lists = let there = held-out before.world claim stands in noted there.0 there.1 learnt given same

      appended : Happened (meaning before.world.rules) disk before after ItsEvent → Appended before after (noted_of learnt claim.tid)
      appended was = (
        true,
        subst (Wholly before.world after.world) lists
            (happened-wholly meaning lawful disk before after is ItsEvent (step-reply given)
            (record_of (meaning before.world.rules) before.world ItsEvent) refl was),
      )

      by_end : (r : Result Replied WorkEnd) → RepliedAs (meaning before.world.rules) disk before after claim given r
          → (r ≡ Err end.OutOfMemory → ⊥) → Appended before after (noted_of learnt claim.tid)
      by_end (Ok replied.Recorded) ends some = appended ends.2
      by_end (Ok replied.Released) ends some = appended ends.2
      by_end (Ok replied.Down) ends some =
          let fell = fell-was_cut meaning lawful disk before after is ItsEvent ends.1 (noted_of learnt claim.tid) lists in (false, fell.cut)
      by_end (Err end.Stale) ends some = absurd (both_ways (stands_out before.world claim) ends.0 stands)
      by_end (Err end.OutOfMemory) ends some = absurd (some refl)

  -- a reply to a claim that does not stand leaves all as it is
  pub stale-replied : stands_out before.world claim ≡ false → (result : Result Replied WorkEnd)
      → RepliedAs (meaning before.world.rules) disk before after claim given result → (result ≡ Err end.OutOfMemory → ⊥) → after ≡ before
  stale-replied stale (Ok replied.Recorded) did other = absurd (both_ways (stands_out before.world claim) stale did.0)
  stale-replied stale (Ok replied.Released) did other = absurd (both_ways (stands_out before.world claim) stale did.0)
  stale-replied stale (Ok replied.Down) did other = absurd (both_ways (stands_out before.world claim) stale did.0)
  stale-replied stale (Err end.Stale) did other = did.1
  stale-replied stale (Err end.OutOfMemory) did other = absurd (other refl)
