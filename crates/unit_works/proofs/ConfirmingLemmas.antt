-- A unit is confirmed: nothing has ended, and no claim has changed.
use Rattle.std.specs.Prelude.{Contains, Result, Ok, Err, IfOk, OnErr}
use Rattle.std.specs.Option.{option_and_then, option_map_or}
use Rattle.std.specs.Result.{is_ok}
use Rattle.std.proofs.Common.{◌≡◌, ◌+◌, ◌&&◌, ℕ, not, Bool, true, false, cond, Some, None, List, [], ◌∷◌, ◌++◌, inl, inr, refl, sym, ap, subst, ◌∙◌, arith}
use Rattle.std.proofs.lemmas.Bool.{and_parts, both_ways, not-true}
use Rattle.ale_volumes.specs.Disk.{Disk}
use Rattle.ale_base.specs.Tid.{TidOf}
use Rattle.ale_base.specs.declared.out_of_memory.OutOfMemory.{OutOfMemory}
use Rattle.ale_base.proofs.MemberLemmas.{Contains-here, Contains-there, filter_map-Some}
use Rattle.unit_core.specs.declared.ale_unit.AleUnit.{AleUnit}
use Rattle.unit_core.specs.declared.records.Record.{Record}
use Rattle.unit_core.specs.declared.records.Record.TheVariants as log
use Rattle.unit_core.specs.Filters.{done_in, ended_in, forgotten_by, forgotten_in}
use Rattle.unit_core.specs.Queues.{is_listed}
use Rattle.unit_core.proofs.TidLemmas.{is_listed-Contains}
use Rattle.trfc_protocol.specs.declared.event.Event.{Event}
use Rattle.trfc_protocol.specs.declared.event.Event.TheVariants as event
use Rattle.trfc_protocol.specs.declared.event.ReplyTo.TheVariants.{Forgotten}
use Rattle.trfc_protocol.specs.declared.world.World.{World}
use Rattle.trfc_protocol.specs.Legal.{IsLawful}
use Rattle.trfc_protocol.specs.Meaning.{Meaning}
use Rattle.trfc_protocol.specs.RecordOf.{record_if, record_of, record_of_confirmation}
use Rattle.trfc_protocol.specs.Worlds.{committed_unit, is_up, log_of, state_with, with_record}
use Rattle.trfc_protocol.proofs.EventLemmas.{Safe-step}
use Rattle.trfc_protocol.proofs.SafeLemmas.{committed_unit-is}
use Rattle.trfc_protocol.proofs.WorldLemmas.{is_up-known, joins-with_state}
use Rattle.unit_landscape.specs.KeptWorlds.{KeptOf}
use Rattle.unit_landscape.specs.declared.answers.Closed.{Closed}
use Rattle.unit_landscape.specs.declared.answers.Closed.TheVariants as closed
use Rattle.unit_landscape.specs.declared.answers.Confirmed.{Confirmed}
use Rattle.unit_landscape.specs.declared.answers.Confirmed.TheVariants as confirmed
use Rattle.unit_landscape.specs.Calls.{ClosedAs, ConfirmedAs, is_forgotten, receiver_of}
use Rattle.unit_landscape.specs.Ends.{FellInstead, Happened, IsShort}
use Rattle.unit_landscape.specs.Crashes.{LeavesSound}
use Rattle.unit_landscape.specs.Kept.{IsLandscape}
use Rattle.unit_landscape.specs.Writes.{Appends}
use Rattle.unit_landscape.proofs.ConfirmingLemmas.{end-appends, forget-appends}
use Rattle.unit_landscape.proofs.EventLemmas.{event-after, event-up}
use Rattle.unit_works.specs.Events.{is_confirmation}
use Rattle.unit_works.specs.Finished.{finished_in, is_ending}
use Rattle.unit_works.specs.Went.{WentOn}
use Rattle.unit_works.specs.Claims.{AreOrGone}
use Rattle.unit_works.specs.steps.Confirming.{Forgets, SentSo, sent_to}
use Rattle.unit_works.specs.Trips.{Appended, Wholly, forgot, one_at}
use Rattle.unit_works.proofs.StateLemmas.{committed-record}
use Rattle.unit_works.proofs.FellLemmas.{fell-was_cut, finished-fell, gone-fell}
use Rattle.unit_works.proofs.GrowthLemmas.{happened-wholly, wholly-same}
use Rattle.unit_works.proofs.LogLemmas.{if-met, listed}
use Rattle.unit_works.proofs.WentLemmas.{went-same, went-happened, went-fell, went-short}
use Rattle.unit_works.proofs.WorldLemmas.{finished-record, claims-record}

-- an id that a log forgets last is forgotten
listed-last : (tid : TidOf) (records : List Record) → is_listed tid (forgotten_in (records ++ log.Forget tid ∷ [])) ≡ true
listed-last tid records =
    ap (is_listed tid) (filter_map-Some forgotten_by records (log.Forget tid) tid refl)
    ∙ is_listed-Contains tid (forgotten_in records ++ tid ∷ []) (last (forgotten_in records))
  where
    last : (tids : List TidOf) → Contains (tids ++ tid ∷ []) tid
    last [] = Contains-here tid []
    last (t ∷ tids) = Contains-there t (tids ++ tid ∷ []) tid (last tids)

module _ {R A V : Type 0} (meaning : R → Meaning) (lawful : (r : R) → IsLawful (meaning r)) (disk : Disk V) (before after : KeptOf R A V)
    (is : IsLandscape meaning before.world) (tid : TidOf) where
  same-count : after ≡ before → finished_in after.world ≡ finished_in before.world
  same-count same = ap (λ (k : KeptOf R A V). finished_in k.world) same

  same-claims : after ≡ before → AreOrGone before.world after.world before.world.claims
  same-claims same = inl (ap (λ (k : KeptOf R A V). k.world.claims) same)

  module _ (e : Event) (system : ℕ) (next : Record) (appends : Appends (meaning before.world.rules) before.world system next None e)
      (plain : is_ending next ≡ false)
      (did : Happened (meaning before.world.rules) disk before after e) where
    joined-up : is_up before.world system ≡ true
    joined-up = event-up (meaning before.world.rules) (lawful before.world.rules) before.world is.safe is.writable e system next None appends

    joined : after.world ≡ with_record before.world system next
    joined = did.world ∙ event-after (meaning before.world.rules) (lawful before.world.rules) before.world is.safe is.writable e system next None appends

    joined-count : finished_in after.world ≡ finished_in before.world
    joined-count =
        let count : finished_in after.world ≡ finished_in before.world + 0 =
        ap finished_in joined ∙ finished-record before.world system next None joined-up ∙ ap (λ b. finished_in before.world + cond b 1 0) plain in
        omega (arith, count)

    joined-claims : AreOrGone before.world after.world before.world.claims
    joined-claims = inl (ap (λ (w : World R). w.claims) joined ∙ claims-record before.world system next None)

  -- ---- the confirmation comes to the receiver

  module _ (done : is_listed tid (done_in (log_of before.world tid.system)) ≡ true) where
    abbrev Sent : Confirmed → Type 0
    Sent given = ConfirmedAs (meaning before.world.rules) disk before after tid given

    pub went-confirmed : (disk.told → LeavesSound meaning disk before after) → (result : Result Confirmed OutOfMemory) →
        IfOk result (ConfirmedAs (meaning before.world.rules) disk before after tid)
        → OnErr result (IsShort (meaning before.world.rules) disk before after (event.Confirm tid))
        → WentOn meaning disk is_confirmation (is_ok result) before after
    went-confirmed leaves (Ok confirmed.Forgotten) did short =
        went-happened meaning lawful disk is_confirmation before after is leaves true (event.Confirm tid) refl refl did.2
    went-confirmed leaves (Ok confirmed.Already) did short = went-same meaning disk is_confirmation true before after did.2
    went-confirmed leaves (Ok confirmed.Down) did short = elim did [
      | inl idle ↦ went-same meaning disk is_confirmation true before after idle.1
      | inr fell ↦ went-fell meaning lawful disk is_confirmation before after is leaves (λ system kept works. works) true (event.Confirm tid) refl fell
    ]
    went-confirmed leaves (Err why) did short =
        went-short meaning lawful disk is_confirmation before after is leaves (λ system kept works. works) (event.Confirm tid) refl refl short

    abbrev Receiver : ℕ
    Receiver = receiver_of (meaning before.world.rules) before.world tid

    forgets : is_up before.world Receiver ≡ true → is_forgotten (meaning before.world.rules) before.world tid ≡ false
        → Appends (meaning before.world.rules) before.world Receiver (log.Forget tid) None (event.Confirm tid)
    forgets up known =
        forget-appends (meaning before.world.rules) (lawful before.world.rules) before.world is.safe tid Receiver
        (record { done = done; its = refl; up = up; known = known })

    pub finished-confirmed : (given : Confirmed) → Sent given → finished_in after.world ≡ finished_in before.world
    finished-confirmed confirmed.Forgotten did = joined-count (event.Confirm tid) Receiver (log.Forget tid) (forgets did.0 did.1) refl did.2
    finished-confirmed confirmed.Already did = same-count did.2
    finished-confirmed confirmed.Down did = elim did [
      | inl idle ↦ same-count idle.1
      | inr fell ↦ finished-fell meaning lawful disk before after is (event.Confirm tid) fell
    ]

    pub claims-confirmed : (given : Confirmed) → Sent given → AreOrGone before.world after.world before.world.claims
    claims-confirmed confirmed.Forgotten did = joined-claims (event.Confirm tid) Receiver (log.Forget tid) (forgets did.0 did.1) refl did.2
    claims-confirmed confirmed.Already did = same-claims did.2
    claims-confirmed confirmed.Down did = elim did [
      | inl idle ↦ same-claims idle.1
      | inr fell ↦ gone-fell meaning lawful disk before after is (event.Confirm tid) fell before.world.claims
    ]

    -- the receiver has forgotten the unit in the event
    forgotten-now : is_up before.world Receiver ≡ true → is_forgotten (meaning before.world.rules) before.world tid ≡ false
        → Happened (meaning before.world.rules) disk before after (event.Confirm tid) → is_forgotten (meaning before.world.rules) after.world tid ≡ true
    forgotten-now up known did =
        let appends = forgets up known in
        let world = joined (event.Confirm tid) Receiver (log.Forget tid) appends refl did in
        let here = is_up-known before.world Receiver up in
        let joins = joins-with_state before.world Receiver (state_with (log.Forget tid)) here.0 here.1 (log.Forget tid) refl in
        let receiver : receiver_of (meaning before.world.rules) after.world tid ≡ Receiver =
        ap (λ found. option_map_or (λ (unit : AleUnit). unit.receiver) found 0)
        (ap (λ (w : World R). committed_unit (meaning before.world.rules) w tid) world
        ∙ committed-record (meaning before.world.rules) (lawful before.world.rules) before.world Receiver (log.Forget tid) up refl tid) in
        ap (λ s. is_listed tid (forgotten_in (log_of after.world s))) receiver
        ∙ ap (λ (w : World R). is_listed tid (forgotten_in (log_of w Receiver))) world
        ∙ ap (λ records. is_listed tid (forgotten_in records)) joins.here
        ∙ listed-last tid (log_of before.world Receiver)

    pub forgets-confirmed : (given : Confirmed) → Sent given → Forgets (meaning after.world.rules) after.world tid given
    forgets-confirmed confirmed.Forgotten did =
        let was = did.2 in
        let stay : after.world.rules ≡ before.world.rules = (Safe-step meaning lawful before.world after.world (event.Confirm tid) is.safe was.world).0 in
        subst (λ (r : R). is_forgotten (meaning r) after.world tid ≡ true) (sym stay) (forgotten-now did.0 did.1 did.2)
    forgets-confirmed confirmed.Already did =
        let same = did.2 in ap (λ (k : KeptOf R A V). is_forgotten (meaning k.world.rules) k.world tid) same ∙ did.1
    forgets-confirmed confirmed.Down did = tt

    -- where no system fell, the receiver that is up appends that it has forgotten the id, unless it had
    module _ (unit : AleUnit) (named : committed_unit (meaning before.world.rules) before.world tid ≡ Some unit) where
      its : unit.tid ≡ tid
      its = (committed_unit-is (meaning before.world.rules) (lawful before.world.rules) before.world is.safe tid unit named).1

      receiver : Receiver ≡ unit.receiver
      receiver = ap (λ found. option_map_or (λ (u : AleUnit). u.receiver) found 0) named

      forgot-is : is_forgotten (meaning before.world.rules) before.world tid ≡ forgot before.world unit
      forgot-is =
          ap (λ s. is_listed tid (forgotten_in (log_of before.world s))) receiver
          ∙ ap (λ t. is_listed t (forgotten_in (log_of before.world unit.receiver))) (sym its)

      sent-is : (forgotten : Bool) → is_forgotten (meaning before.world.rules) before.world tid ≡ forgotten
          → sent_to forgotten unit ≡ sent_to (forgot before.world unit) unit
      sent-is forgotten known = ap (λ b. sent_to b unit) (sym known ∙ forgot-is)

      sent-lists : is_up before.world Receiver ≡ true → is_forgotten (meaning before.world.rules) before.world tid ≡ false
          → listed (record_of (meaning before.world.rules) before.world (event.Confirm tid)) ≡ sent_to (forgot before.world unit) unit
      sent-lists up known =
          let appends = forgets up known in
          ap listed appends.writes
          ∙ ap (λ s. one_at s (log.Forget tid)) receiver ∙ ap (λ t. one_at unit.receiver (log.Forget t)) (sym its) ∙ sent-is false known

      fell-lists : FellInstead (meaning before.world.rules) disk before after (event.Confirm tid)
          → listed (record_of (meaning before.world.rules) before.world (event.Confirm tid)) ≡ sent_to (forgot before.world unit) unit
      fell-lists fell =
          let done_here = is_listed unit.tid (done_in (log_of before.world unit.tid.system)) && is_up before.world unit.receiver in
          let met = done_here && not (forgot before.world unit) in
          let writes : record_if met unit.receiver (log.Forget unit.tid) ≡ Some fell.0 =
          sym (ap (option_and_then (record_of_confirmation before.world)) named) ∙ fell.1 in
          let is = if-met met unit.receiver (log.Forget unit.tid) fell.0 writes in
          let fresh = not-true (forgot before.world unit) (and_parts done_here (not (forgot before.world unit)) is).1 in
          ap (λ found. listed (option_and_then (record_of_confirmation before.world) found)) named
          ∙ ap (λ b. listed (record_if b unit.receiver (log.Forget unit.tid))) is
          ∙ ap (λ b. sent_to b unit) (sym fresh)

      pub has-sent : is_up before.world unit.receiver ≡ true → (given : Confirmed) → Sent given → SentSo before after tid unit given
      has-sent up confirmed.Forgotten did = inl (record {
        its = its;
        grew = subst (Wholly before.world after.world) (sent-lists did.0 did.1)
            (happened-wholly meaning lawful disk before after is (event.Confirm tid) refl
            (record_of (meaning before.world.rules) before.world (event.Confirm tid)) refl did.2);
        came = λ down. cc;
      })
      has-sent up confirmed.Already did = inl (record {
        its = its;
        grew = subst (Wholly before.world after.world) (sent-is true did.1)
            (wholly-same before.world after.world (ap (λ (k : KeptOf R A V). k.world) did.2));
        came = λ down. cc;
      })
      has-sent up confirmed.Down did = elim did [
        | inl idle ↦ absurd (both_ways (is_up before.world unit.receiver) (sym (ap (is_up before.world) receiver) ∙ idle.0) up)
        | inr fell ↦
            let cut = fell-was_cut meaning lawful disk before after is (event.Confirm tid) fell (sent_to (forgot before.world unit) unit)
            (fell-lists fell) in
            inr (cut.cut, refl)
      ]

  -- ---- the reply to the confirmation comes to the sender

  module _ (gone : is_forgotten (meaning before.world.rules) before.world tid ≡ true) where
    abbrev Closes : Closed → Type 0
    Closes given = ClosedAs (meaning before.world.rules) disk before after tid given

    pub went-closed : (disk.told → LeavesSound meaning disk before after) → (result : Result Closed OutOfMemory) →
        IfOk result (ClosedAs (meaning before.world.rules) disk before after tid)
        → OnErr result (IsShort (meaning before.world.rules) disk before after (event.Reply (Forgotten tid)))
        → WentOn meaning disk is_confirmation (is_ok result) before after
    went-closed leaves (Ok closed.Recorded) did short =
        went-happened meaning lawful disk is_confirmation before after is leaves true (event.Reply (Forgotten tid)) refl refl did.2
    went-closed leaves (Ok closed.Already) did short = went-same meaning disk is_confirmation true before after did.2
    went-closed leaves (Ok closed.Down) did short = elim did [
      | inl idle ↦ went-same meaning disk is_confirmation true before after idle.1
      | inr fell ↦ went-fell meaning lawful disk is_confirmation before after is leaves (λ system kept works. works) true
          (event.Reply (Forgotten tid)) refl fell
    ]
    went-closed leaves (Err why) did short =
        went-short meaning lawful disk is_confirmation before after is leaves (λ system kept works. works) (event.Reply (Forgotten tid)) refl refl short

    ends : is_up before.world tid.system ≡ true → is_listed tid (ended_in (log_of before.world tid.system)) ≡ false
        → Appends (meaning before.world.rules) before.world tid.system (log.Ended tid) None (event.Reply (Forgotten tid))
    ends up lasts =
        end-appends (meaning before.world.rules) (lawful before.world.rules) before.world is.safe tid tid.system
        (record { forgotten = gone; its = refl; up = up; lasts = lasts })

    pub finished-closed : (given : Closed) → Closes given → finished_in after.world ≡ finished_in before.world
    finished-closed closed.Recorded did = joined-count (event.Reply (Forgotten tid)) tid.system (log.Ended tid) (ends did.0 did.1) refl did.2
    finished-closed closed.Already did = same-count did.2
    finished-closed closed.Down did = elim did [
      | inl idle ↦ same-count idle.1
      | inr fell ↦ finished-fell meaning lawful disk before after is (event.Reply (Forgotten tid)) fell
    ]

    pub claims-closed : (given : Closed) → Closes given → AreOrGone before.world after.world before.world.claims
    claims-closed closed.Recorded did = joined-claims (event.Reply (Forgotten tid)) tid.system (log.Ended tid) (ends did.0 did.1) refl did.2
    claims-closed closed.Already did = same-claims did.2
    claims-closed closed.Down did = elim did [
      | inl idle ↦ same-claims idle.1
      | inr fell ↦ gone-fell meaning lawful disk before after is (event.Reply (Forgotten tid)) fell before.world.claims
    ]

    -- the sender that is up appends that, unless it falls in its place
    pub appended-closed : is_up before.world tid.system ≡ true → is_listed tid (ended_in (log_of before.world tid.system)) ≡ false → (given : Closed)
        → Closes given → Appended before after (one_at tid.system (log.Ended tid))
    appended-closed up lasts closed.Recorded did =
        let appends = ends did.0 did.1 in (
          true,
          happened-wholly meaning lawful disk before after is (event.Reply (Forgotten tid)) refl
              (Some (record { system = tid.system; next = log.Ended tid })) appends.writes did.2,
        )
    appended-closed up lasts closed.Already did = absurd (both_ways (is_listed tid (ended_in (log_of before.world tid.system))) lasts did.1)
    appended-closed up lasts closed.Down did = elim did [
      | inl idle ↦ absurd (both_ways (is_up before.world tid.system) idle.0 up)
      | inr fell ↦
          let appends = ends up lasts in
          let cut = fell-was_cut meaning lawful disk before after is (event.Reply (Forgotten tid)) fell (one_at tid.system (log.Ended tid))
          (ap listed appends.writes) in
          (false, cut.cut)
    ]
