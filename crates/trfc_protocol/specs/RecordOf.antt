-- Which record an event appends, and at which system. An event that is not possible appends none, and so does one that makes
-- or drops a claim alone. What an opening finds is not told here: it was written by the system as it fell, and is possible
-- only where the system is down, so no system falls in the midst of it.
use Rattle.std.specs.Prelude.{ℕ, Bool, not, ◌&&◌, ◌||◌, Option, Some, None, if◌then◌else◌}
use Rattle.std.specs.Option.{option_and_then}
use Rattle.ale_base.specs.Tid.{TidOf}
use Rattle.ale_base.specs.declared.mark.Mark.TheVariants.{Cpicerr, Sysfail}
use Rattle.unit_core.specs.declared.ale_unit.AleUnit.{AleUnit}
use Rattle.unit_core.specs.declared.records.Record.{Record}
use Rattle.unit_core.specs.declared.records.Record.TheVariants as log
use Rattle.unit_core.specs.Filters.{received, done_in, ended_in, forgotten_in}
use Rattle.unit_core.specs.Queues.{is_listed, is_among}
use Rattle.trfc_protocol.specs.declared.world.World.{World}
use Rattle.trfc_protocol.specs.declared.held.Held.{Held}
use Rattle.trfc_protocol.specs.declared.held.HeldKind.{HeldKind}
use Rattle.trfc_protocol.specs.declared.held.HeldKind.TheVariants.{Out, In, Direct}
use Rattle.trfc_protocol.specs.declared.answer.Answer.{Answer}
use Rattle.trfc_protocol.specs.declared.answer.Answer.TheVariants as answer
use Rattle.trfc_protocol.specs.declared.event.Event.{Event}
use Rattle.trfc_protocol.specs.declared.event.Event.TheVariants as event
use Rattle.trfc_protocol.specs.declared.event.ReplyTo.TheVariants.{Claim, Forgotten}
use Rattle.trfc_protocol.specs.declared.event.CoreAnswer.{CoreAnswer}
use Rattle.trfc_protocol.specs.declared.event.CoreAnswer.TheVariants as reply
use Rattle.trfc_protocol.specs.declared.event.Action.TheVariants.{Append, Revoke}
use Rattle.trfc_protocol.specs.Meaning.{Meaning}
use Rattle.trfc_protocol.specs.Legal.{is_commit, is_operators, is_model, is_empty, may_follow}
use Rattle.trfc_protocol.specs.Worlds.{log_of, is_up, offers_now, committed_unit, claim_of}
use Rattle.trfc_protocol.specs.Offered.{may_arrive, answer_to, offers_received_now}

-- a record at the end of a system's log
pub record Writing : Type 0 where
  pub system : ℕ
  pub next : Record

-- a record, where this is met
abbrev pub record_if : Bool → ℕ → Record → Option Writing
record_if met system next = if met then Some (record { system = system; next = next }) else None

-- a receiver that takes a unit in
abbrev pub record_of_answer : AleUnit → Answer → Option Writing
record_of_answer unit answer.New = Some (record { system = unit.receiver; next = log.Accept unit })
record_of_answer unit _ = None

-- the loss of the request or of the reply of a shipment: the unit is marked
abbrev pub record_of_loss : Held → HeldKind → Option Writing
record_of_loss held Out = Some (record { system = held.system; next = log.Mark held.tid Cpicerr })
record_of_loss held _ = None

module _ {R : Type 0} (world : World R) where
  -- an operator or the application appends such a record; the model is replaced only where there is no claim
  abbrev pub may_operate : Record → Bool
  may_operate next = is_operators next && (not (is_model next) || is_empty world.claims)

  -- the confirmation of a done unit: its receiver forgets the id, unless it has
  abbrev pub record_of_confirmation : AleUnit → Option Writing
  record_of_confirmation unit =
      record_if
      (is_listed unit.tid (done_in (log_of world unit.tid.system)) && is_up world unit.receiver
      && not (is_listed unit.tid (forgotten_in (log_of world unit.receiver))))
      unit.receiver (log.Forget unit.tid)

  -- the reply to a confirmation: the id is forgotten
  abbrev pub record_of_ending : TidOf → AleUnit → Option Writing
  record_of_ending tid unit =
      record_if
      (is_up world tid.system && is_listed tid (done_in (log_of world tid.system))
      && not (is_listed tid (ended_in (log_of world tid.system)))
      && is_listed tid (forgotten_in (log_of world unit.receiver)))
      tid.system (log.Ended tid)

  -- the record of an event of a claim, by its kind
  abbrev pub record_of_claim : (Held → HeldKind → Option Writing) → ℕ → Option Writing
  record_of_claim of_kind number = option_and_then (λ held. of_kind held held.kind) (claim_of number world.claims)

module _ {R : Type 0} (rules : Meaning) (world : World R) where
  -- a record that is asked for: its system is up, it is of the kind that is asked for, and it may follow the log
  abbrev pub record_asked : Bool → ℕ → Record → Option Writing
  record_asked of_kind system next = record_if (is_up world system && of_kind && may_follow rules system (log_of world system) next) system next

  -- the arrival of a unit
  abbrev pub record_of_arrival : AleUnit → Option Writing
  record_of_arrival unit = if may_arrive rules world unit then record_of_answer unit (answer_to rules world unit) else None

  -- the end of a direct run: the unit is taken in and executed in one record
  abbrev pub record_of_run : Held → AleUnit → Option Writing
  record_of_run held unit = record_if (offers_now rules world held.system unit.function) held.system (log.Direct unit)

  -- the end of the work of a claim, where its system offers the function
  abbrev pub record_of_work : Held → HeldKind → Option Writing
  record_of_work held In = record_if (offers_received_now rules world held.system held.tid) held.system (log.Execute held.tid)
  record_of_work held Direct = option_and_then (record_of_run held) (committed_unit rules world held.tid)
  record_of_work held Out = None

  -- the end of an execution, where its system does not offer the function
  abbrev pub record_of_failure : Held → HeldKind → Option Writing
  record_of_failure held In = record_if (not (offers_received_now rules world held.system held.tid)) held.system (log.Fail held.tid)
  record_of_failure held _ = None

  -- what the sender learns of a unit that it shipped: its receiver has it, or can't execute it, or is busy with it
  abbrev pub record_of_answered : Held → CoreAnswer → AleUnit → Option Writing
  record_of_answered held reply.Busy unit = None
  record_of_answered held reply.Done unit =
      record_if (is_among unit.tid (received (log_of world unit.receiver))) held.system (log.Done held.tid)
  record_of_answered held reply.SysFail unit =
      record_if (is_empty unit.inq && not (offers_now rules world unit.receiver unit.function)) held.system (log.Mark held.tid Sysfail)

  -- the reply to a shipment
  abbrev pub record_of_reply : CoreAnswer → Held → HeldKind → Option Writing
  record_of_reply reply.Busy held kind = None
  record_of_reply given held Out = option_and_then (record_of_answered held given) (committed_unit rules world held.tid)
  record_of_reply given held _ = None

  -- the record that an event appends, and where
  abbrev pub record_of : Event → Option Writing
  record_of (event.Commit system what) = record_asked (is_commit what) system what
  record_of (event.Claim tid) = None
  record_of (event.Arrive tid) = option_and_then record_of_arrival (committed_unit rules world tid)
  record_of (event.Run tid) = None
  record_of (event.Finish number) = record_of_claim world record_of_work number
  record_of (event.Fail number) = record_of_claim world record_of_failure number
  record_of (event.Reply (Claim number given)) = record_of_claim world (record_of_reply given) number
  record_of (event.Reply (Forgotten tid)) = option_and_then (record_of_ending world tid) (committed_unit rules world tid)
  record_of (event.LoseRequest number) = record_of_claim world record_of_loss number
  record_of (event.LoseReply number) = record_of_claim world record_of_loss number
  record_of (event.Confirm tid) = option_and_then (record_of_confirmation world) (committed_unit rules world tid)
  record_of (event.LoseConfirm tid) = None
  record_of (event.Operator (Append system next)) = record_asked (may_operate world next) system next
  record_of (event.Operator Revoke) = None
  record_of (event.Fall system kept) = None
  record_of (event.Open system) = None
