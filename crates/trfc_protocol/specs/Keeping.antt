-- Which record a system may be writing as it falls: one that some event, possible now, appends there (`IsWritten`). The test
-- goes by the kind of the record. In a safe world it is exactly this, as `World::may_keep` ensures, and the system is up: a
-- claim is of a system that is up.
use Rattle.std.specs.Prelude.{◌≡◌, ℕ, Bool, true, false, not, ◌==◌, ◌&&◌, Some}
use Rattle.std.specs.Option.{option_map_or}
use Rattle.ale_base.specs.declared.mark.Mark.{Mark as Cause}
use Rattle.ale_base.specs.declared.mark.Mark.TheVariants.{Cpicerr, Sysfail}
use Rattle.ale_base.specs.Tid.{TidOf}
use Rattle.unit_core.specs.declared.ale_unit.AleUnit.{AleUnit}
use Rattle.unit_core.specs.declared.records.Record.{Record}
use Rattle.unit_core.specs.declared.records.Record.TheVariants.{Commit, Dispatch, Mark, Done, Ended, Accept, Execute, Direct, Fail, Forget}
use Rattle.unit_core.specs.Filters.{received, done_in, ended_in, forgotten_in}
use Rattle.unit_core.specs.Queues.{is_listed, is_among}
use Rattle.trfc_protocol.specs.declared.world.World.{World}
use Rattle.trfc_protocol.specs.declared.held.HeldKind.TheVariants.{Out, In, Direct as Run}
use Rattle.trfc_protocol.specs.declared.answer.Answer.{Answer}
use Rattle.trfc_protocol.specs.declared.answer.Answer.TheVariants as answer
use Rattle.trfc_protocol.specs.declared.event.Event.{Event}
use Rattle.trfc_protocol.specs.Meaning.{Meaning}
use Rattle.trfc_protocol.specs.Legal.{is_commit, is_empty, may_follow}
use Rattle.trfc_protocol.specs.Worlds.{log_of, is_up, offers_now, committed_unit, is_claimed_at}
use Rattle.trfc_protocol.specs.Offered.{may_arrive, answer_to, offers_received_now}
use Rattle.unit_core.specs.SameUnit.{is_same_unit}
use Rattle.trfc_protocol.specs.RecordOf.{record_of, may_operate}

-- an event that is possible now appends this record at this system
abbrev pub IsWritten : {R : Type 0} → Meaning → World R → ℕ → Record → Type 0
IsWritten rules world system next = (e : Event) × (record_of rules world e ≡ Some (record { system = system; next = next }))

-- whether the answer is that the unit is taken in
abbrev pub is_new_answer : Answer → Bool
is_new_answer answer.New = true
is_new_answer _ = false

module _ {R : Type 0} (rules : Meaning) (world : World R) where
  -- what is asked of the unit of an id, as its sender committed it
  abbrev pub of_committed : (AleUnit → Bool) → TidOf → Bool
  of_committed test tid = option_map_or test (committed_unit rules world tid) false

  -- a system that is up appends a record of this kind, and it may follow the log
  abbrev pub may_append : Bool → ℕ → Record → Bool
  may_append of_kind system next = is_up world system && of_kind && may_follow rules system (log_of world system) next

  -- a Mark: the unit is shipped, and for SYSFAIL its receiver can't execute it
  abbrev pub may_mark : ℕ → TidOf → Cause → Bool
  may_mark system tid Cpicerr = is_claimed_at Out system tid world.claims
  may_mark system tid Sysfail =
      is_claimed_at Out system tid world.claims
      && of_committed (λ unit. is_empty unit.inq && not (offers_now rules world unit.receiver unit.function)) tid

  -- whether this record may be the one that a system was writing as it fell
  abbrev pub may_keep : ℕ → Record → Bool
  may_keep system (Mark tid cause) = may_mark system tid cause
  may_keep system (Done tid) =
      is_claimed_at Out system tid world.claims && of_committed (λ unit. is_among unit.tid (received (log_of world unit.receiver))) tid
  may_keep system (Ended tid) =
      (tid.system == system) && is_up world system && is_listed tid (done_in (log_of world system))
      && not (is_listed tid (ended_in (log_of world system)))
      && of_committed (λ unit. is_listed tid (forgotten_in (log_of world unit.receiver))) tid
  may_keep system (Accept unit) =
      (unit.receiver == system) && of_committed (is_same_unit unit) unit.tid
      && may_arrive rules world unit && is_new_answer (answer_to rules world unit)
  may_keep system (Execute tid) = is_claimed_at In system tid world.claims && offers_received_now rules world system tid
  may_keep system (Direct unit) =
      is_claimed_at Run system unit.tid world.claims && of_committed (is_same_unit unit) unit.tid
      && offers_now rules world system unit.function
  may_keep system (Fail tid) = is_claimed_at In system tid world.claims && not (offers_received_now rules world system tid)
  may_keep system (Forget tid) =
      is_listed tid (done_in (log_of world tid.system)) && is_up world system
      && not (is_listed tid (forgotten_in (log_of world system))) && of_committed (λ unit. unit.receiver == system) tid
  may_keep system (Commit origin docs) = may_append (is_commit (Commit origin docs)) system (Commit origin docs)
  may_keep system Dispatch = may_append (is_commit Dispatch) system Dispatch
  may_keep system next = may_append (may_operate world next) system next
