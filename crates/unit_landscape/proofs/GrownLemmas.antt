-- However a call of a landscape ends, its world has gone on by the same rules, and each log is the one before with records behind it.
use Rattle.std.specs.Prelude.{Result, Ok, Err, IfOk, OnErr}
use Rattle.std.proofs.Common.{length, ◌≡◌, Bool, true, false, ℕ, inl, inr, Option, Some, None, refl, sym, ap, subst, ◌∙◌}
use Rattle.ale_volumes.specs.Disk.{Disk}
use Rattle.ale_base.specs.Prefix.{IsPrefix}
use Rattle.ale_base.specs.declared.out_of_memory.OutOfMemory.{OutOfMemory}
use Rattle.ale_base.specs.Tid.{TidOf}
use Rattle.unit_core.specs.declared.ale_unit.AleUnit.{AleUnit}
use Rattle.unit_core.specs.declared.records.Record.{Record}
use Rattle.unit_core.specs.declared.records.Record.TheVariants as log
use Rattle.trfc_protocol.specs.declared.event.Event.{Event}
use Rattle.trfc_protocol.specs.declared.event.Event.TheVariants as event
use Rattle.trfc_protocol.specs.declared.event.Event.TheVariants.{Fall}
use Rattle.trfc_protocol.specs.declared.event.Action.TheVariants.{Append}
use Rattle.trfc_protocol.specs.declared.event.ReplyTo.TheVariants.{Forgotten}
use Rattle.trfc_protocol.specs.declared.world.World.{World}
use Rattle.trfc_protocol.specs.Happens.{happens}
use Rattle.trfc_protocol.specs.Legal.{IsLawful}
use Rattle.trfc_protocol.specs.Meaning.{Meaning}
use Rattle.trfc_protocol.specs.RecordOf.{Writing}
use Rattle.trfc_protocol.specs.Worlds.{log_of}
use Rattle.trfc_protocol.proofs.EventLemmas.{Safe-step}
use Rattle.trfc_protocol.proofs.ForCallers.{logs_grow}
use Rattle.unit_landscape.specs.declared.append_end.AppendEnd.{AppendEnd}
use Rattle.unit_landscape.specs.declared.append_end.AppendEnd.TheVariants.{Volume, Full, Before, After}
use Rattle.unit_landscape.specs.KeptWorlds.{KeptOf}
use Rattle.unit_landscape.specs.declared.answers.Arrival.{Arrival}
use Rattle.unit_landscape.specs.declared.answers.Arrival.TheVariants as arrival
use Rattle.unit_landscape.specs.declared.answers.Closed.{Closed}
use Rattle.unit_landscape.specs.declared.answers.Closed.TheVariants as closed
use Rattle.unit_landscape.specs.declared.answers.Confirmed.{Confirmed}
use Rattle.unit_landscape.specs.declared.answers.Confirmed.TheVariants as confirmed
use Rattle.unit_landscape.specs.declared.answers.Finished.{Finished}
use Rattle.unit_landscape.specs.declared.answers.Finished.TheVariants as finished
use Rattle.unit_landscape.specs.declared.answers.Late.{Late}
use Rattle.unit_landscape.specs.declared.answers.Late.TheVariants as late
use Rattle.unit_landscape.specs.declared.answers.LateEnd.{LateEnd}
use Rattle.unit_landscape.specs.declared.answers.LateEnd.TheVariants as refusal
use Rattle.unit_landscape.specs.declared.answers.OperatorEnd.{OperatorEnd}
use Rattle.unit_landscape.specs.declared.answers.OperatorEnd.TheVariants as operator
use Rattle.unit_landscape.specs.declared.answers.Replied.{Replied}
use Rattle.unit_landscape.specs.declared.answers.Replied.TheVariants as replied
use Rattle.unit_landscape.specs.declared.answers.Reply.{Reply}
use Rattle.unit_landscape.specs.declared.answers.WorkEnd.{WorkEnd}
use Rattle.unit_landscape.specs.declared.answers.WorkEnd.TheVariants.{Stale}
use Rattle.unit_landscape.specs.declared.answers.WorkEnd.TheVariants as work
use Rattle.unit_landscape.specs.declared.claims.InClaim.{InClaim}
use Rattle.unit_landscape.specs.declared.claims.OutClaim.{OutClaim}
use Rattle.unit_landscape.specs.Calls.{Arrived, ClaimedIn, ClaimedOut, ClosedAs, ConfirmedAs, FinishedAs, OperatedAs, RepliedAs, finish_event, reply_event}
use Rattle.unit_landscape.specs.Late.{CameAs, IsFullLate, IsShortLate, LateAs}
use Rattle.unit_landscape.specs.Ends.{Happened, Failed, Overflowed, Stays, FellBehind, FellInstead, IsShort, AppendsAs}
use Rattle.unit_landscape.specs.Appending.{at}
use Rattle.unit_landscape.specs.Counted.{HaveNotFallen}
use Rattle.unit_landscape.specs.Crashes.{HasGrown}
use Rattle.unit_landscape.proofs.WorldTotals.{not_fallen}
use Rattle.ale_base.proofs.PrefixLemmas.{IsPrefix-same, IsPrefix-trans}
use Rattle.trfc_protocol.specs.Safe.{Safe}

module _ {R : Type 0} where
  -- a world that is as it was
  pub grown-none : (before after : World R) → after ≡ before → HasGrown before after
  grown-none before after same = record {
    rules = ap (λ (w : World R). w.rules) same;
    many = ap (λ (w : World R). length w.systems) same;
    logs = λ system.
        subst (λ (w : World R). IsPrefix (log_of before system) (log_of w system)) (sym same) (IsPrefix-same (log_of before system));
  }

  -- one went on, and then again
  pub grown-joined : (before between after : World R) → HasGrown before between → HasGrown between after → HasGrown before after
  grown-joined before between after first second = record {
    rules = second.rules ∙ first.rules;
    many = second.many ∙ first.many;
    logs = λ system. IsPrefix-trans (log_of before system) (log_of between system) (log_of after system) (first.logs system) (second.logs system);
  }

module _ {R : Type 0} (meaning : R → Meaning) (lawful : (rules : R) → IsLawful (meaning rules)) (before after : World R)
    (safe : Safe (meaning before.rules) before) where
  -- an event
  pub grown-event : (e : Event) → after ≡ happens (meaning before.rules) before e → HasGrown before after
  grown-event e same =
      let step = Safe-step meaning lawful before after e safe same in
      let now : Safe (meaning after.rules) after = step.1 in
      record {
        rules = step.0;
        many = now.systems ∙ ap (λ (rules : R). (meaning rules).systems) step.0 ∙ sym safe.systems;
        logs = λ system.
            subst (λ (w : World R). IsPrefix (log_of before system) (log_of w system)) (sym same) (logs_grow (meaning before.rules) before e system);
      }

  -- no sum over all systems has fallen, where a world has grown
  pub grown-totals : HasGrown before after → Safe (meaning before.rules) after → HaveNotFallen (meaning before.rules) before after
  grown-totals grown now = not_fallen (meaning before.rules) (lawful before.rules) before safe after now grown.logs

-- two events
pub grown-events : {R : Type 0} (meaning : R → Meaning) → ((rules : R) → IsLawful (meaning rules)) → (before after : World R)
    → Safe (meaning before.rules) before → (first second : Event)
    → after ≡ happens (meaning before.rules) (happens (meaning before.rules) before first) second → HasGrown before after
grown-events {R} meaning lawful before after safe first second same =
    let between : World R = happens (meaning before.rules) before first in
    let step = Safe-step meaning lawful before between first safe refl in
    grown-joined before between after (grown-event meaning lawful before between safe first refl)
    (grown-event meaning lawful between after step.1 second (same ∙ ap (λ (rules : R). happens (meaning rules) between second) (sym step.0)))

module _ {R A V : Type 0} (meaning : R → Meaning) (lawful : (rules : R) → IsLawful (meaning rules)) (disk : Disk V) (before after : KeptOf R A V)
    (safe : Safe (meaning before.world.rules) before.world) where
  abbrev Grown : Type 0
  Grown = HasGrown before.world after.world

  pub grown-happened : (e : Event) → Happened (meaning before.world.rules) disk before after e → Grown
  grown-happened e did = grown-event meaning lawful before.world after.world safe e did.world

  pub grown-failed : (it : Writing) → Failed (meaning before.world.rules) disk before after it → Grown
  grown-failed it did = grown-event meaning lawful before.world after.world safe (Fall it.system (Some it.next)) did.world

  pub grown-overflowed : (it : Writing) → Overflowed (meaning before.world.rules) disk before after it → Grown
  grown-overflowed it did = grown-event meaning lawful before.world after.world safe (Fall it.system None) did.world

  pub grown-stays : Stays (meaning before.world.rules) disk before after → Grown
  grown-stays did = grown-none before.world after.world did.world

  pub grown-behind : (e : Event) (it : Writing) → FellBehind (meaning before.world.rules) disk before after e it → Grown
  grown-behind e it did = grown-events meaning lawful before.world after.world safe e (Fall it.system None) did.world

  pub grown-same : after ≡ before → Grown
  grown-same same = grown-none before.world after.world (ap (λ (k : KeptOf R A V). k.world) same)

  -- however a record was appended
  pub grown-appends : {T : Type 0} (e : Event) (it : Writing) (result : Result T AppendEnd) → AppendsAs (meaning before.world.rules) disk before after e it
      result
      → Grown
  grown-appends e it (Ok done) did = grown-happened e did
  grown-appends e it (Err Volume) did = grown-failed it did
  grown-appends e it (Err (Full size)) did = grown-same did.same
  grown-appends e it (Err Before) did = grown-stays did
  grown-appends e it (Err After) did = grown-behind e it did

  pub grown-fell : (e : Event) → FellInstead (meaning before.world.rules) disk before after e → Grown
  grown-fell e did = elim did.2 [
    | inl failed ↦ grown-failed did.0 failed
    | inr full ↦ grown-overflowed did.0 full
  ]

  pub grown-short : (e : Event) → IsShort (meaning before.world.rules) disk before after e → Grown
  grown-short e did = elim did [
    | inl stays ↦ grown-stays stays
    | inr behind ↦ grown-behind e behind.0 behind.2
  ]

  -- a system fell, or was down
  pub grown-crashed : (system : ℕ) (fell : Bool) → (fell ≡ true → Happened (meaning before.world.rules) disk before after (Fall system None))
      → (fell ≡ false → after ≡ before) → Grown
  grown-crashed system true did same = grown-happened (Fall system None) (did refl)
  grown-crashed system false did same = grown-same (same refl)

  -- however an operator's record was appended
  pub grown-operated : {T : Type 0} (system : ℕ) (next : Record) (result : Result T OperatorEnd)
      → OperatedAs (meaning before.world.rules) disk before after system next result → Grown
  grown-operated system next (Ok done) did = grown-happened (event.Operator (Append system next)) did.0
  grown-operated system next (Err operator.Down) did = grown-same did.1
  grown-operated system next (Err operator.NotAllowed) did = grown-same did.2
  grown-operated system next (Err (operator.Full size)) did = grown-same did.1.same
  grown-operated system next (Err operator.Volume) did = grown-failed (at system next) did.1
  grown-operated system next (Err operator.OutOfMemory) did = grown-short (event.Operator (Append system next)) did.1

  -- ---- the calls of a unit's way

  pub grown-arrived : (unit : AleUnit) (result : Result Arrival OutOfMemory) → IfOk result (Arrived (meaning before.world.rules) disk before after unit)
      → OnErr result (IsShort (meaning before.world.rules) disk before after (event.Arrive unit.tid)) → Grown
  grown-arrived unit (Ok (arrival.New receipt)) did short = grown-happened (event.Arrive unit.tid) did.0.1
  grown-arrived unit (Ok (arrival.Run claim)) did short = grown-happened (event.Arrive unit.tid) did.0.1
  grown-arrived unit (Ok (arrival.Known receipt)) did short = grown-same did.0.1
  grown-arrived unit (Ok arrival.Busy) did short = grown-same did.1
  grown-arrived unit (Ok arrival.SysFail) did short = grown-same did.1
  grown-arrived unit (Ok arrival.Down) did short = elim did [
    | inl idle ↦ grown-same idle.1
    | inr fell ↦ grown-fell (event.Arrive unit.tid) fell.1
  ]
  grown-arrived unit (Err why) did short = grown-short (event.Arrive unit.tid) short

  pub grown-finished : (claim : InClaim) (result : Result Finished WorkEnd) → FinishedAs (meaning before.world.rules) disk before after claim result →
      Grown
  grown-finished claim (Ok (finished.Executed receipt)) did = grown-happened (event.Finish claim.number) did.2
  grown-finished claim (Ok finished.Failed) did = grown-happened (event.Fail claim.number) did.2
  grown-finished claim (Ok finished.Down) did = grown-fell (finish_event (meaning before.world.rules) before.world claim) did.1
  grown-finished claim (Err Stale) did = grown-same did.1
  grown-finished claim (Err work.OutOfMemory) did = grown-short (finish_event (meaning before.world.rules) before.world claim) did.1

  pub grown-replied : (claim : OutClaim) (given : Reply) (result : Result Replied WorkEnd) → RepliedAs (meaning before.world.rules) disk before after claim
      given result
      → Grown
  grown-replied claim given (Ok replied.Recorded) did = grown-happened (reply_event (meaning before.world.rules) before.world claim given) did.2
  grown-replied claim given (Ok replied.Released) did = grown-happened (reply_event (meaning before.world.rules) before.world claim given) did.2
  grown-replied claim given (Ok replied.Down) did = grown-fell (reply_event (meaning before.world.rules) before.world claim given) did.1
  grown-replied claim given (Err Stale) did = grown-same did.1
  grown-replied claim given (Err work.OutOfMemory) did = grown-short (reply_event (meaning before.world.rules) before.world claim given) did.1

  pub grown-confirmed : (tid : TidOf) (result : Result Confirmed OutOfMemory) → IfOk result (ConfirmedAs (meaning before.world.rules) disk before after tid)
      → OnErr result (IsShort (meaning before.world.rules) disk before after (event.Confirm tid)) → Grown
  grown-confirmed tid (Ok confirmed.Forgotten) did short = grown-happened (event.Confirm tid) did.2
  grown-confirmed tid (Ok confirmed.Already) did short = grown-same did.2
  grown-confirmed tid (Ok confirmed.Down) did short = elim did [
    | inl idle ↦ grown-same idle.1
    | inr fell ↦ grown-fell (event.Confirm tid) fell
  ]
  grown-confirmed tid (Err why) did short = grown-short (event.Confirm tid) short

  pub grown-closed : (tid : TidOf) (result : Result Closed OutOfMemory) → IfOk result (ClosedAs (meaning before.world.rules) disk before after tid)
      → OnErr result (IsShort (meaning before.world.rules) disk before after (event.Reply (Forgotten tid))) → Grown
  grown-closed tid (Ok closed.Recorded) did short = grown-happened (event.Reply (Forgotten tid)) did.2
  grown-closed tid (Ok closed.Already) did short = grown-same did.2
  grown-closed tid (Ok closed.Down) did short = elim did [
    | inl idle ↦ grown-same idle.1
    | inr fell ↦ grown-fell (event.Reply (Forgotten tid)) fell
  ]
  grown-closed tid (Err why) did short = grown-short (event.Reply (Forgotten tid)) short

  pub grown-claimed_out : (system : ℕ) (result : Result (Option OutClaim) OutOfMemory) → IfOk result
      (ClaimedOut (meaning before.world.rules) disk before after system)
      → OnErr result (after ≡ before) → Grown
  grown-claimed_out system (Ok None) did same = grown-same did.0
  grown-claimed_out system (Ok (Some claim)) did same = grown-happened (event.Claim claim.tid) did.0
  grown-claimed_out system (Err why) did same = grown-same same

  pub grown-claimed_in : (system : ℕ) (result : Result (Option InClaim) OutOfMemory) → IfOk result
      (ClaimedIn (meaning before.world.rules) disk before after system)
      → OnErr result (after ≡ before) → Grown
  grown-claimed_in system (Ok None) did same = grown-same did.0
  grown-claimed_in system (Ok (Some claim)) did same = grown-happened (event.Run claim.tid) did.0
  grown-claimed_in system (Err why) did same = grown-same same

  -- ---- a late request

  -- two events, and a third
  grown-behind_run : (tid : TidOf) (number system : ℕ)
      → after.world ≡ happens (meaning before.world.rules)
      (happens (meaning before.world.rules) (happens (meaning before.world.rules) before.world (event.Arrive tid)) (event.Finish number)) (Fall system None)
      → Grown
  grown-behind_run tid number system same =
      let first : World R = happens (meaning before.world.rules) before.world (event.Arrive tid) in
      let step = Safe-step meaning lawful before.world first (event.Arrive tid) safe refl in
      grown-joined before.world first after.world (grown-event meaning lawful before.world first safe (event.Arrive tid) refl)
      (grown-events meaning lawful first after.world step.1 (event.Finish number) (Fall system None)
      (same ∙ ap (λ r. happens (meaning r) (happens (meaning r) first (event.Finish number)) (Fall system None)) (sym step.0)))

  grown-came : (unit : AleUnit) (given : Late) → CameAs (meaning before.world.rules) disk before after unit given → Grown
  grown-came unit late.New did = elim did [
    | inl arrived ↦ grown-happened (event.Arrive unit.tid) arrived.1
    | inr run ↦ grown-events meaning lawful before.world after.world safe (event.Arrive unit.tid) (event.Finish before.world.next_number) run.1.world
  ]
  grown-came unit late.Known did = grown-same did.1
  grown-came unit late.SysFail did = grown-same did.1
  grown-came unit late.Down did = elim did [
    | inl idle ↦ grown-same idle.1
    | inr fell ↦ elim fell [
      | inl arrived ↦ grown-failed _ arrived.1
      | inr run ↦ grown-events meaning lawful before.world after.world safe (event.Arrive unit.tid) (Fall unit.receiver (Some (log.Direct unit))) run.1.world
    ]
  ]

  grown-full : (unit : AleUnit) (size : ℕ) → IsFullLate (meaning before.world.rules) disk before after unit size → Grown
  grown-full unit size did = elim did [
    | inl arrived ↦ grown-same arrived.1.same
    | inr run ↦ grown-same run.1.same
  ]

  grown-short_late : (unit : AleUnit) → IsShortLate (meaning before.world.rules) disk before after unit → Grown
  grown-short_late unit did = elim did [
    | inl arrived ↦ grown-behind (event.Arrive unit.tid) _ arrived.1
    | inr run ↦ grown-behind_run unit.tid before.world.next_number _ run.1.world
  ]

  pub grown-late : (tid : TidOf) (result : Result Late LateEnd) → LateAs (meaning before.world.rules) disk before after tid result → Grown
  grown-late tid (Ok given) did = grown-came did.0 given did.2
  grown-late tid (Err (refusal.Full size)) did = grown-full did.0 size did.2
  grown-late tid (Err refusal.OutOfMemory) did = elim did [
    | inl stays ↦ grown-stays stays
    | inr short ↦ grown-short_late short.0 short.2
  ]
  grown-late tid (Err why) did = grown-same did.1
