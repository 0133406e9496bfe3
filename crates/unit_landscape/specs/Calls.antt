-- What the calls of a unit's way answer, and which event each is.
use Rattle.std.specs.Prelude.{◌≡◌, ◌⊎◌, ℕ, Bool, true, false, not, ◌&&◌, Option, Some, None, Result, Ok, Err, if◌then◌else◌}
use Rattle.std.specs.Option.{option_map_or}
use Rattle.ale_volumes.specs.Disk.{Disk}
use Rattle.ale_base.specs.Tid.{TidOf, is_tid}
use Rattle.ale_base.specs.declared.way.Way.TheVariants.{Outgoing, Incoming}
use Rattle.unit_core.specs.declared.ale_unit.AleUnit.{AleUnit}
use Rattle.unit_core.specs.declared.records.Record.{Record}
use Rattle.unit_core.specs.Filters.{received, ended_in, forgotten_in}
use Rattle.unit_core.specs.Queues.{is_listed, is_among}
use Rattle.trfc_protocol.specs.declared.world.World.{World}
use Rattle.trfc_protocol.specs.declared.held.Held.{Held}
use Rattle.trfc_protocol.specs.declared.held.HeldKind.TheVariants.{Out}
use Rattle.trfc_protocol.specs.declared.answer.Answer.{Answer}
use Rattle.trfc_protocol.specs.declared.answer.Answer.TheVariants as answer
use Rattle.trfc_protocol.specs.declared.event.Event.{Event}
use Rattle.trfc_protocol.specs.declared.event.Event.TheVariants as event
use Rattle.trfc_protocol.specs.declared.event.ReplyTo.TheVariants.{Claim, Forgotten}
use Rattle.trfc_protocol.specs.declared.event.CoreAnswer.TheVariants as core
use Rattle.trfc_protocol.specs.declared.event.Action.TheVariants.{Append}
use Rattle.trfc_protocol.specs.Meaning.{Meaning}
use Rattle.trfc_protocol.specs.Legal.{is_empty, may_follow}
use Rattle.trfc_protocol.specs.Worlds.{log_of, is_up, committed_unit, offers_now, is_kind, claim_of}
use Rattle.trfc_protocol.specs.Offered.{is_offered_outbound, is_offered_inbound, answer_to}
use Rattle.trfc_protocol.specs.RecordOf.{record_of}
use Rattle.unit_landscape.specs.KeptWorlds.{KeptOf}
use Rattle.unit_landscape.specs.LogAnswers.{first_to_go}
use Rattle.unit_landscape.specs.Ends.{Happened, Failed, IsFull, FellInstead, IsShort}
use Rattle.unit_landscape.specs.declared.claims.OutClaim.{OutClaim}
use Rattle.unit_landscape.specs.declared.claims.InClaim.{InClaim}
use Rattle.unit_landscape.specs.declared.answers.Arrival.{Arrival}
use Rattle.unit_landscape.specs.declared.answers.Arrival.TheVariants.{New, Run, Known, Busy, SysFail, Down}
use Rattle.unit_landscape.specs.declared.answers.Finished.{Finished}
use Rattle.unit_landscape.specs.declared.answers.Finished.TheVariants as finished
use Rattle.unit_landscape.specs.declared.answers.Reply.{Reply}
use Rattle.unit_landscape.specs.declared.answers.Reply.TheVariants as reply
use Rattle.unit_landscape.specs.declared.answers.Replied.{Replied}
use Rattle.unit_landscape.specs.declared.answers.Replied.TheVariants as replied
use Rattle.unit_landscape.specs.declared.answers.Confirmed.{Confirmed}
use Rattle.unit_landscape.specs.declared.answers.Confirmed.TheVariants as confirmed
use Rattle.unit_landscape.specs.declared.answers.Closed.{Closed}
use Rattle.unit_landscape.specs.declared.answers.Closed.TheVariants as closed
use Rattle.unit_landscape.specs.declared.answers.WorkEnd.{WorkEnd}
use Rattle.unit_landscape.specs.declared.answers.WorkEnd.TheVariants.{Stale, OutOfMemory}
use Rattle.unit_landscape.specs.declared.answers.OperatorEnd.{OperatorEnd}
use Rattle.unit_landscape.specs.declared.answers.OperatorEnd.TheVariants as operator

-- ---- claims

-- a claim is on this unit
abbrev pub is_on : TidOf → Option Held → Bool
is_on tid found = option_map_or (λ (held : Held). is_tid held.tid tid) found false

-- a claim is to ship a unit
abbrev pub is_out : Option Held → Bool
is_out found = option_map_or (λ (held : Held). is_kind held.kind Out) found false

-- whether a claim to ship a unit stands: one of its number is there, on its unit, to ship it
abbrev pub stands_out : {R : Type 0} → World R → OutClaim → Bool
stands_out world claim = is_on claim.tid (claim_of claim.number world.claims) && is_out (claim_of claim.number world.claims)

-- whether a claim to execute a unit stands: one of its number is there, on its unit, to execute it or to run it as it arrives
abbrev pub stands_in : {R : Type 0} → World R → InClaim → Bool
stands_in world claim = is_on claim.tid (claim_of claim.number world.claims) && not (is_out (claim_of claim.number world.claims))

-- whether the receiver of the unit of an id received it
abbrev pub was_received : {R : Type 0} → Meaning → World R → TidOf → Bool
was_received rules world tid =
    option_map_or (λ (unit : AleUnit). is_among unit.tid (received (log_of world unit.receiver))) (committed_unit rules world tid) false

-- whether the unit of an id has no inbound queue, and a function that its receiver does not offer
abbrev pub is_refused : {R : Type 0} → Meaning → World R → TidOf → Bool
is_refused rules world tid =
    option_map_or (λ (unit : AleUnit). is_empty unit.inq && not (offers_now rules world unit.receiver unit.function)) (committed_unit rules world tid) false

-- whether the receiver of the unit of an id offers its function
abbrev pub is_offered_function : {R : Type 0} → Meaning → World R → TidOf → Bool
is_offered_function rules world tid =
    option_map_or (λ (unit : AleUnit). offers_now rules world unit.receiver unit.function) (committed_unit rules world tid) false

-- the receiver of the unit of an id, and 0 where there is none
abbrev pub receiver_of : {R : Type 0} → Meaning → World R → TidOf → ℕ
receiver_of rules world tid = option_map_or (λ (unit : AleUnit). unit.receiver) (committed_unit rules world tid) 0

-- whether the receiver of the unit of an id has forgotten the id
abbrev pub is_forgotten : {R : Type 0} → Meaning → World R → TidOf → Bool
is_forgotten rules world tid = is_listed tid (forgotten_in (log_of world (receiver_of rules world tid)))

-- which event the end of a work is
abbrev pub finish_event : {R : Type 0} → Meaning → World R → InClaim → Event
finish_event rules world claim = if is_offered_function rules world claim.tid then event.Finish claim.number else event.Fail claim.number

-- which event a reply is: a receipt that is of another unit, or of one that was not received, counts as none, and so does a SYSFAIL of
-- a unit that its receiver can run, or that it queues
abbrev pub reply_event : {R : Type 0} → Meaning → World R → OutClaim → Reply → Event
reply_event rules world claim (reply.Done receipt) =
    if is_tid receipt.tid claim.tid && was_received rules world claim.tid then event.Reply (Claim claim.number core.Done) else event.LoseReply claim.number
reply_event rules world claim reply.SysFail =
    if is_refused rules world claim.tid then event.Reply (Claim claim.number core.SysFail) else event.LoseReply claim.number
reply_event rules world claim reply.Lost = event.LoseReply claim.number
reply_event rules world claim reply.Busy = event.Reply (Claim claim.number core.Busy)

-- a claim was made under the next number, at this count of falls
pub record IsMade {R : Type 0} (world : World R) (number opening : ℕ) : Type 0 where
  pub next : number ≡ world.next_number
  pub falls : opening ≡ world.falls

module _ {R A V : Type 0} (rules : Meaning) (disk : Disk V) (before after : KeptOf R A V) where
  abbrev Was : Event → Type 0
  Was = Happened rules disk before after

  -- a unit was claimed to be shipped: the first of those that are offered outbound at a system, if one is
  abbrev pub ClaimedOut : ℕ → Option OutClaim → Type 0
  ClaimedOut system None = (after ≡ before)
      × ((is_up before.world system ≡ false) ⊎ ((tid : TidOf) → tid.system ≡ system → is_offered_outbound rules before.world tid ≡ false))
  ClaimedOut system (Some claim) =
      Was (event.Claim claim.tid)
      × (is_offered_outbound rules before.world claim.tid ≡ true)
      × (first_to_go rules before.world system Outgoing ≡ Some claim.tid)
      × (claim.tid.system ≡ system)
      × ((unit : AleUnit) × (committed_unit rules before.world claim.tid ≡ Some unit) × (unit.receiver ≡ claim.receiver))
      × IsMade before.world claim.number claim.opening

  -- a unit was claimed to be executed: the first of those that are offered inbound at a system, if one is
  abbrev pub ClaimedIn : ℕ → Option InClaim → Type 0
  ClaimedIn system None = (after ≡ before)
      × ((is_up before.world system ≡ false) ⊎ ((tid : TidOf) → is_offered_inbound before.world system tid ≡ false))
  ClaimedIn system (Some claim) =
      Was (event.Run claim.tid)
      × (is_offered_inbound before.world system claim.tid ≡ true)
      × (first_to_go rules before.world system Incoming ≡ Some claim.tid)
      × (claim.system ≡ system)
      × IsMade before.world claim.number claim.opening

  -- the receiver answers so, and the call is the arrival
  abbrev pub Answered : AleUnit → Answer → Type 0
  Answered unit given = (answer_to rules before.world unit ≡ given) × Was (event.Arrive unit.tid)

  -- and nothing has changed
  abbrev pub AnsweredIdle : AleUnit → Answer → Type 0
  AnsweredIdle unit given = Answered unit given × (after ≡ before)

  -- a unit arrived
  abbrev pub Arrived : AleUnit → Arrival → Type 0
  Arrived unit (New receipt) = Answered unit answer.New × (receipt.tid ≡ unit.tid)
  Arrived unit (Run claim) =
      Answered unit answer.Run × (claim.tid ≡ unit.tid) × (claim.system ≡ unit.receiver) × IsMade before.world claim.number claim.opening
  Arrived unit (Known receipt) = AnsweredIdle unit answer.Known × (receipt.tid ≡ unit.tid)
  Arrived unit Busy = AnsweredIdle unit answer.Busy
  Arrived unit SysFail = AnsweredIdle unit answer.SysFail
  Arrived unit Down = AnsweredIdle unit answer.Down ⊎
      ((answer_to rules before.world unit ≡ answer.New) × FellInstead rules disk before after (event.Arrive unit.tid))

  -- a claim did not stand, and nothing has changed
  abbrev pub WasStale : Bool → Type 0
  WasStale stands = (stands ≡ false) × (after ≡ before)

  -- the work of a claim ended
  abbrev pub FinishedAs : InClaim → Result Finished WorkEnd → Type 0
  FinishedAs claim (Ok (finished.Executed receipt)) =
      (stands_in before.world claim ≡ true) × (is_offered_function rules before.world claim.tid ≡ true) × Was
      (event.Finish claim.number) × (receipt.tid ≡ claim.tid)
  FinishedAs claim (Ok finished.Failed) =
      (stands_in before.world claim ≡ true) × (is_offered_function rules before.world claim.tid ≡ false) × Was (event.Fail claim.number)
  FinishedAs claim (Ok finished.Down) =
      (stands_in before.world claim ≡ true) × FellInstead rules disk before after (finish_event rules before.world claim)
  FinishedAs claim (Err Stale) = WasStale (stands_in before.world claim)
  FinishedAs claim (Err OutOfMemory) =
      (stands_in before.world claim ≡ true) × IsShort rules disk before after (finish_event rules before.world claim)

  -- the reply to a shipment arrived
  abbrev pub RepliedAs : OutClaim → Reply → Result Replied WorkEnd → Type 0
  RepliedAs claim given (Ok replied.Recorded) =
      (stands_out before.world claim ≡ true) × (given ≡ reply.Busy → ⊥) × Was (reply_event rules before.world claim given)
  RepliedAs claim given (Ok replied.Released) =
      (stands_out before.world claim ≡ true) × (given ≡ reply.Busy) × Was (reply_event rules before.world claim given)
  RepliedAs claim given (Ok replied.Down) =
      (stands_out before.world claim ≡ true) × FellInstead rules disk before after (reply_event rules before.world claim given)
  RepliedAs claim given (Err Stale) = WasStale (stands_out before.world claim)
  RepliedAs claim given (Err OutOfMemory) =
      (stands_out before.world claim ≡ true) × IsShort rules disk before after (reply_event rules before.world claim given)

  -- a record may be appended by an operator
  abbrev MayOperate : ℕ → Record → Type 0
  MayOperate system next = (is_up before.world system ≡ true) × (may_follow rules system (log_of before.world system) next ≡ true)

  -- the confirmation of a unit came to its receiver
  abbrev pub ConfirmedAs : TidOf → Confirmed → Type 0
  ConfirmedAs tid confirmed.Forgotten =
      (is_up before.world (receiver_of rules before.world tid) ≡ true) × (is_forgotten rules before.world tid ≡ false) × Was (event.Confirm tid)
  ConfirmedAs tid confirmed.Already =
      (is_up before.world (receiver_of rules before.world tid) ≡ true) × (is_forgotten rules before.world tid ≡ true) × (after ≡ before)
  ConfirmedAs tid confirmed.Down =
      ((is_up before.world (receiver_of rules before.world tid) ≡ false) × (after ≡ before)) ⊎ FellInstead rules disk before after (event.Confirm tid)

  -- the reply to a confirmation came to the sender
  abbrev pub ClosedAs : TidOf → Closed → Type 0
  ClosedAs tid closed.Recorded =
      (is_up before.world tid.system ≡ true) × (is_listed tid (ended_in (log_of before.world tid.system)) ≡ false) × Was (event.Reply (Forgotten tid))
  ClosedAs tid closed.Already =
      (is_up before.world tid.system ≡ true) × (is_listed tid (ended_in (log_of before.world tid.system)) ≡ true) × (after ≡ before)
  ClosedAs tid closed.Down =
      ((is_up before.world tid.system ≡ false) × (after ≡ before)) ⊎ FellInstead rules disk before after (event.Reply (Forgotten tid))

  -- an operator's record was appended at a system, or it was refused and nothing has changed
  abbrev pub OperatedAs : {T : Type 0} → ℕ → Record → Result T OperatorEnd → Type 0
  OperatedAs system next (Ok done) = Was (event.Operator (Append system next)) × (record_of rules before.world (event.Operator (Append system next))
      ≡ Some (record { system = system; next = next }))
  OperatedAs system next (Err operator.Down) = (is_up before.world system ≡ false) × (after ≡ before)
  OperatedAs system next (Err operator.NotAllowed) =
      (is_up before.world system ≡ true) × (may_follow rules system (log_of before.world system) next ≡ false) × (after ≡ before)
  OperatedAs system next (Err (operator.Full size)) = MayOperate system next × IsFull rules disk before after (record { system = system; next = next }) size
  OperatedAs system next (Err operator.Volume) = MayOperate system next × Failed rules disk before after (record { system = system; next = next })
  OperatedAs system next (Err operator.OutOfMemory) = MayOperate system next × IsShort rules disk before after (event.Operator (Append system next))
