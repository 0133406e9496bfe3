-- What acts append to the logs: a unit is shipped under a letter, executed at its receiver, or confirmed under a letter.
use Rattle.std.specs.Prelude.{◌≡◌, ◌≢◌, ◌⊎◌, ℕ, Bool, true, false, not, ◌==◌, ◌&&◌, Option, Some, None, List, [], ◌∷◌, ◌++◌, map, filter, if◌then◌else◌}
use Rattle.ale_base.specs.Tid.{TidOf}
use Rattle.ale_base.specs.declared.mark.Mark.TheVariants.{Cpicerr, Sysfail}
use Rattle.unit_core.specs.declared.ale_unit.AleUnit.{AleUnit}
use Rattle.unit_core.specs.declared.records.Record.{Record}
use Rattle.unit_core.specs.declared.records.Record.TheVariants.{Accept, Direct, Execute, Fail, Done, Mark, Forget, Ended}
use Rattle.unit_core.specs.Filters.{received, forgotten_in}
use Rattle.unit_core.specs.Queues.{is_listed, unit_named}
use Rattle.system_tables.specs.OfLog.{is_unconfirmed}
use Rattle.trfc_protocol.specs.declared.world.World.{World}
use Rattle.trfc_protocol.specs.declared.answer.Answer.{Answer}
use Rattle.trfc_protocol.specs.declared.answer.Answer.TheVariants as answer
use Rattle.trfc_protocol.specs.declared.event.CoreAnswer.{CoreAnswer}
use Rattle.trfc_protocol.specs.declared.event.CoreAnswer.TheVariants as reply
use Rattle.trfc_protocol.specs.Meaning.{Meaning}
use Rattle.trfc_protocol.specs.Worlds.{is_up, log_of, rest_of, committed_by, committed_unit}
use Rattle.trfc_protocol.specs.Legal.{is_free_outbound, is_free_inbound}
use Rattle.trfc_protocol.specs.declared.held.Held.{Held}
use Rattle.trfc_protocol.specs.declared.held.HeldKind.{HeldKind}
use Rattle.trfc_protocol.specs.declared.held.HeldKind.TheVariants as kind
use Rattle.trfc_protocol.specs.Offered.{is_stopped_outbound, is_stopped_inbound, may_move, offers_received_now}
use Rattle.trfc_protocol.specs.RecordOf.{Writing}
use Rattle.unit_landscape.specs.declared.cause.Cause.TheVariants.{Crashed, Faulted, Overran}
use Rattle.unit_landscape.specs.KeptWorlds.{KeptOf, cause_at}
use Rattle.unit_landscape.specs.Writes.{IsTooLong}
use Rattle.unit_works.specs.declared.letter.Letter.{Letter}
use Rattle.unit_works.specs.Events.{arrives_under, falls_under, is_answered_under, is_confirmed_under, is_sent_under}

-- the records that come to a system's log, in order, of those that are appended
abbrev pub records_at : ℕ → List Writing → List Record
records_at system added = map (λ (it : Writing). it.next) (filter (λ (it : Writing). it.system == system) added)

-- each log is the one before with its records behind it
abbrev pub HaveGrown : {R : Type 0} → World R → World R → List Writing → Type 0
HaveGrown before after added = (system : ℕ) → log_of after system ≡ log_of before system ++ records_at system added

-- These records were appended, one after the other, and no system fell: each is up or down as before, and may find what it might.
pub record Wholly {R : Type 0} (before after : World R) (added : List Writing) : Type 0 where
  pub grew : HaveGrown before after added
  pub stand : (system : ℕ) → (is_up after system ≡ is_up before system) × (rest_of after system ≡ rest_of before system)

-- A record did not fit on the volume of its system: that may find nothing, and the landscape tells how long the volume would have been with
-- this very record.
pub record DidNotFit {R A V : Type 0} (after : KeptOf R A V) (next : Writing) : Type 0 where
  pub nothing : rest_of after.world next.system ≡ None
  pub size : ℕ
  pub long : IsTooLong after next size
  pub told : cause_at after next.system ≡ Overran size

-- A volume failed as a record was to be appended, and its faults rose (`HasCause`): its system may find that record, and the landscape tells
-- that it is down by a fault.
pub record HasFailed {R A V : Type 0} (after : KeptOf R A V) (next : Writing) : Type 0 where
  pub finds : rest_of after.world next.system ≡ Some next.next
  pub told : cause_at after next.system ≡ Faulted

-- These records were appended, one after the other, and a system fell as it was to append one more: its volume failed, and it may find that
-- one; or that one did not fit. All other systems are up or down as before, and may find what they might.
pub record CutAt {R A V : Type 0} (before after : KeptOf R A V) (done : List Writing) (next : Writing) : Type 0 where
  pub grew : HaveGrown before.world after.world done
  pub up : is_up before.world next.system ≡ true
  pub fell : is_up after.world next.system ≡ false
  pub why : HasFailed after next ⊎ DidNotFit after next
  pub others : (system : ℕ) → system ≢ next.system
      → (is_up after.world system ≡ is_up before.world system) × (rest_of after.world system ≡ rest_of before.world system)

-- Of these records, in this order, all were appended: that was whole. Or it was cut, where a system fell as it was to append one of them:
-- those before it were appended, and none behind it.
abbrev pub AppendedAs : {R A V : Type 0} → KeptOf R A V → KeptOf R A V → List Writing → Bool → Type 0
AppendedAs before after added true = Wholly before.world after.world added
AppendedAs before after added false =
    (done : List Writing) × (rest : List Writing) × (next : Writing) × (added ≡ done ++ next ∷ rest) × CutAt before after done next

-- the same, whether it was whole or cut
abbrev pub Appended : {R A V : Type 0} → KeptOf R A V → KeptOf R A V → List Writing → Type 0
Appended before after added = (whole : Bool) × AppendedAs before after added whole

-- These records were appended, one after the other, and then a system fell of which nothing failed: it finds nothing, and the landscape tells that
-- it was felled. All other systems are up or down as before, and may find what they might.
pub record Felled {R A V : Type 0} (before after : KeptOf R A V) (added : List Writing) (system : ℕ) : Type 0 where
  pub grew : HaveGrown before.world after.world added
  pub up : is_up before.world system ≡ true
  pub fell : is_up after.world system ≡ false
  pub nothing : rest_of after.world system ≡ None
  pub told : cause_at after system ≡ Crashed
  pub others : (other : ℕ) → other ≢ system
      → (is_up after.world other ≡ is_up before.world other) × (rest_of after.world other ≡ rest_of before.world other)

-- one record more at a system
abbrev pub one_at : ℕ → Record → List Writing
one_at system next = record { system = system; next = next } ∷ []

-- what a receiver appends as a unit arrives that it answers so: it takes the unit in, or takes it in and executes it in one record; nothing
-- where it has it, is busy with it, can't execute it, or is down
abbrev pub taken_in : Answer → AleUnit → List Writing
taken_in answer.New unit = one_at unit.receiver (Accept unit)
taken_in answer.Run unit = one_at unit.receiver (Direct unit)
taken_in _ unit = []

-- what comes back from a receiver that answers so: it has the unit, or can't execute it, or is busy with it; nothing from one that is down
abbrev pub back_of : Answer → Option CoreAnswer
back_of answer.New = Some reply.Done
back_of answer.Run = Some reply.Done
back_of answer.Known = Some reply.Done
back_of answer.Busy = Some reply.Busy
back_of answer.SysFail = Some reply.SysFail
back_of answer.Down = None

-- what a sender learns of a shipment under a letter: nothing where the request or the reply is lost
abbrev pub learnt_under : Letter → Answer → Option CoreAnswer
learnt_under letter given = if is_answered_under letter then back_of given else None

-- a receiver that answers so is down
abbrev pub is_down : Answer → Bool
is_down answer.Down = true
is_down _ = false

-- a letter fells the receiver that gives this answer: one that is down falls no more
abbrev pub fells : Letter → Answer → Bool
fells letter given = falls_under letter && not (is_down given)

-- what a sender appends: the unit is done; or it is marked, since its receiver can't execute it, or since nothing came back; nothing where
-- its receiver is busy with it
abbrev pub noted_of : Option CoreAnswer → TidOf → List Writing
noted_of (Some reply.Done) tid = one_at tid.system (Done tid)
noted_of (Some reply.SysFail) tid = one_at tid.system (Mark tid Sysfail)
noted_of (Some reply.Busy) tid = []
noted_of None tid = one_at tid.system (Mark tid Cpicerr)

-- whether a sender learns that its unit is done
abbrev pub is_done : Option CoreAnswer → Bool
is_done (Some reply.Done) = true
is_done _ = false

-- what is appended as a unit is confirmed: its receiver forgets the id, and its sender notes that it did
abbrev pub closing : AleUnit → List Writing
closing unit = one_at unit.receiver (Forget unit.tid) ++ one_at unit.tid.system (Ended unit.tid)

-- what a sender notes of a shipment under a letter: nothing where the letter fells the receiver, since with that all claims are gone
abbrev pub noted_under : Letter → Answer → TidOf → List Writing
noted_under letter given tid = if fells letter given then [] else noted_of (learnt_under letter given) tid

-- What is appended as a unit is shipped under a letter, and no record fails: its receiver takes it in where the request arrives, however often
-- it does; its sender notes what it learns; and where it is done, its confirmation and the reply to it come, unless the letter loses it.
abbrev pub shipment : Letter → Answer → AleUnit → List Writing
shipment letter given unit =
    (if arrives_under letter then taken_in given unit else [])
    ++ noted_under letter given unit.tid
    ++ (if is_confirmed_under letter && is_done (learnt_under letter given) then closing unit else [])

-- A unit was shipped under a letter, and answered so: the records of that were appended, and it was whole, where the letter fells no receiver. Or it
-- was cut: a system fell as it was to append one of them, or the letter felled the receiver behind them.
abbrev pub ShippedSo : {R A V : Type 0} → KeptOf R A V → KeptOf R A V → Letter → Answer → AleUnit → Bool → Type 0
ShippedSo before after letter given unit true =
    AppendedAs before after (shipment letter given unit) true × (fells letter given ≡ false)
ShippedSo before after letter given unit false =
    AppendedAs before after (shipment letter given unit) false
    ⊎ ((fells letter given ≡ true) × Felled before after (shipment letter given unit) unit.receiver)

-- the same, whether it was whole or cut
abbrev pub Shipped : {R A V : Type 0} → KeptOf R A V → KeptOf R A V → Letter → Answer → AleUnit → Type 0
Shipped before after letter given unit = (whole : Bool) × ShippedSo before after letter given unit whole

-- what is appended as a unit is executed: that it was, or that it failed where its receiver does not offer its function
abbrev pub execution : Bool → ℕ → TidOf → List Writing
execution offered system tid = one_at system (if offered then Execute tid else Fail tid)

-- the record of a run: the unit of the claim was taken in and executed
abbrev pub run_at : ℕ → Option AleUnit → List Writing
run_at system (Some unit) = one_at system (Direct unit)
run_at system None = []

-- what is appended as the work of a claim ends: that its unit was executed or failed, or that it was run
abbrev pub worked_by : {R : Type 0} → Meaning → World R → Held → HeldKind → List Writing
worked_by rules world held kind.In = execution (offers_received_now rules world held.system held.tid) held.system held.tid
worked_by rules world held kind.Direct = run_at held.system (committed_unit rules world held.tid)
worked_by rules world held kind.Out = []

-- What is appended as a unit is confirmed that was done before: its receiver forgets the id, unless it has, and its sender notes that it
-- did; nothing where the confirmation is lost.
abbrev pub confirmation : Letter → Bool → AleUnit → List Writing
confirmation letter forgotten unit =
    if is_sent_under letter then (if forgotten then [] else one_at unit.receiver (Forget unit.tid)) ++ one_at unit.tid.system (Ended unit.tid) else []

module _ {R : Type 0} (rules : Meaning) (world : World R) where
  -- a unit may be shipped: its sender is up, it is outstanding and not marked, it heads its outbound queues, and none of them is stopped
  abbrev pub may_ship : TidOf → Bool
  may_ship tid =
      is_up world tid.system
      && is_free_outbound (committed_by rules world tid.system) (log_of world tid.system) tid
      && may_move (is_stopped_outbound (log_of world tid.system)) (committed_unit rules world tid)

module _ {R : Type 0} (world : World R) where
  -- a unit may be executed at a system: it is up, the unit was received, is not executed and not marked, it heads its inbound queues, and
  -- none of them is stopped
  abbrev pub may_execute : ℕ → TidOf → Bool
  may_execute system tid =
      is_up world system
      && is_free_inbound (log_of world system) tid
      && may_move (is_stopped_inbound (log_of world system)) (unit_named tid (received (log_of world system)))

  -- the confirmation of a unit is due: it is done and not ended, and both its systems are up
  abbrev pub is_due : AleUnit → Bool
  is_due unit = is_up world unit.tid.system && is_up world unit.receiver && is_unconfirmed unit.tid (log_of world unit.tid.system)

  -- the receiver of a unit has forgotten it
  abbrev pub forgot : AleUnit → Bool
  forgot unit = is_listed unit.tid (forgotten_in (log_of world unit.receiver))

-- a unit of this id was committed, and its confirmation is due
pub record IsDueOf {R : Type 0} (rules : Meaning) (world : World R) (tid : TidOf) : Type 0 where
  pub unit : AleUnit
  pub committed : committed_unit rules world tid ≡ Some unit
  pub due : is_due world unit ≡ true
