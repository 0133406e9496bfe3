-- An earlier request of a unit comes to its receiver now, and nothing is told to its sender.
use Rattle.std.specs.Prelude.{◌≡◌, ◌⊎◌, ℕ, ⊤, Bool, true, false, not, ◌&&◌, Option, Some, None, is_some, List, Result, Ok, Err}
use Rattle.std.specs.Option.{option_and_then}
use Rattle.ale_volumes.specs.Disk.{Disk}
use Rattle.ale_base.specs.Tid.{TidOf}
use Rattle.ale_base.specs.declared.mark.Mark.{Mark}
use Rattle.ale_base.specs.declared.mark.Mark.TheVariants.{Cpicerr, Sysfail}
use Rattle.ale_base.specs.declared.way.Way.TheVariants.{Outgoing}
use Rattle.unit_core.specs.declared.ale_unit.AleUnit.{AleUnit}
use Rattle.unit_core.specs.declared.records.Record.{Record}
use Rattle.unit_core.specs.declared.records.Record.TheVariants as log
use Rattle.unit_core.specs.Filters.{done_in, mark_of}
use Rattle.unit_core.specs.Queues.{is_listed}
use Rattle.plain_queues.specs.declared.not_offered.NotOffered.{NotOffered}
use Rattle.plain_queues.specs.declared.not_offered.NotOffered.TheVariants.{Failed as Marked}
use Rattle.trfc_protocol.specs.declared.world.World.{World}
use Rattle.trfc_protocol.specs.declared.answer.Answer.{Answer}
use Rattle.trfc_protocol.specs.declared.answer.Answer.TheVariants as answer
use Rattle.trfc_protocol.specs.declared.event.Event.TheVariants as event
use Rattle.trfc_protocol.specs.Meaning.{Meaning}
use Rattle.trfc_protocol.specs.declared.held.HeldKind.TheVariants.{Direct}
use Rattle.trfc_protocol.specs.Worlds.{log_of, is_up, state_of, committed_unit, with_claim}
use Rattle.trfc_protocol.specs.Offered.{answer_to}
use Rattle.trfc_protocol.specs.RecordOf.{Writing}
use Rattle.trfc_protocol.specs.Happens.{happens}
use Rattle.unit_landscape.specs.declared.append_end.AppendEnd.{AppendEnd}
use Rattle.unit_landscape.specs.declared.append_end.AppendEnd.TheVariants.{Volume, Full as TooLong, Before, After}
use Rattle.unit_landscape.specs.KeptWorlds.{KeptOf}
use Rattle.unit_landscape.specs.LogAnswers.{KeepsVolumes}
use Rattle.unit_landscape.specs.Kept.{IsLandscape}
use Rattle.unit_landscape.specs.InStep.{AreInStepWith}
use Rattle.unit_landscape.specs.Ends.{Happened, Failed, IsFull, Stays, FellBehind}
use Rattle.unit_landscape.specs.Calls.{AnsweredIdle}
use Rattle.unit_landscape.specs.Appending.{at}
use Rattle.unit_landscape.specs.declared.answers.Late.{Late}
use Rattle.unit_landscape.specs.declared.answers.Late.TheVariants.{New, Known, SysFail, Down}
use Rattle.unit_landscape.specs.declared.answers.LateEnd.{LateEnd}
use Rattle.unit_landscape.specs.declared.answers.LateEnd.TheVariants.{NoSuchSystem, SenderDown, NotCommitted, NotMarked, Full, OutOfMemory}

-- whether a mark is that of a request or a reply that was lost
abbrev pub is_of_loss : Option Mark → Bool
is_of_loss (Some Cpicerr) = true
is_of_loss (Some Sysfail) = false
is_of_loss None = false

-- whether the sender of an id has marked its unit CPICERR since its last Retry, and it is not done
abbrev pub is_lost : {R : Type 0} → World R → TidOf → Bool
is_lost world tid = is_of_loss (mark_of Outgoing tid (log_of world tid.system)) && not (is_listed tid (done_in (log_of world tid.system)))

-- a request of a unit may come late: its sender is up, committed it, and has lost it
pub record IsLate {R : Type 0} (rules : Meaning) (world : World R) (tid : TidOf) (unit : AleUnit) : Type 0 where
  pub up : is_up world tid.system ≡ true
  pub committed : committed_unit rules world tid ≡ Some unit
  pub lost : is_lost world tid ≡ true

-- why no request of an id may come late: the first that applies
abbrev pub IsRefused : {R : Type 0} → Meaning → World R → TidOf → LateEnd → Type 0
IsRefused rules world tid NoSuchSystem = is_some (state_of world.systems tid.system) ≡ false
IsRefused rules world tid SenderDown = (is_some (state_of world.systems tid.system) ≡ true) × (is_up world tid.system ≡ false)
IsRefused rules world tid NotCommitted = (is_up world tid.system ≡ true) × (committed_unit rules world tid ≡ None)
IsRefused rules world tid NotMarked =
    (is_up world tid.system ≡ true) × (is_some (committed_unit rules world tid) ≡ true) × (is_lost world tid ≡ false)
IsRefused rules world tid (Full size) = ⊥
IsRefused rules world tid OutOfMemory = ⊥

-- the record of a unit that comes late: it is taken in, or run
abbrev pub record_of_late : AleUnit → Answer → Option Writing
record_of_late unit answer.New = Some (record { system = unit.receiver; next = log.Accept unit })
record_of_late unit answer.Run = Some (record { system = unit.receiver; next = log.Direct unit })
record_of_late unit _ = None

-- the record by which a receiver takes in what comes late of an id, where it does
abbrev pub late_record : {R : Type 0} → Meaning → World R → TidOf → Option Writing
late_record rules world tid = option_and_then (λ unit. record_of_late unit (answer_to rules world unit)) (committed_unit rules world tid)

-- what is kept as the run of a unit that arrives begins: its claim was made, under the next number
abbrev pub begun_by : {R A V : Type 0} → Meaning → KeptOf R A V → TidOf → KeptOf R A V
begun_by rules before tid = record before { world = happens rules before.world (event.Arrive tid) }

module _ {R A V : Type 0} (rules : Meaning) (disk : Disk V) (before after : KeptOf R A V) where
  module _ (unit : AleUnit) where
    abbrev Answers : Answer → Type 0
    Answers given = answer_to rules before.world unit ≡ given

    -- how a unit came late: it arrived, or it was run as it arrived, which is its arrival and then the end of its run
    abbrev pub CameAs : Late → Type 0
    CameAs New =
        (Answers answer.New × Happened rules disk before after (event.Arrive unit.tid))
        ⊎ (Answers answer.Run × Happened rules disk (begun_by rules before unit.tid) after (event.Finish before.world.next_number))
    CameAs Known = AnsweredIdle rules disk before after unit answer.Known
    CameAs SysFail = AnsweredIdle rules disk before after unit answer.SysFail
    CameAs Down =
        AnsweredIdle rules disk before after unit answer.Down
        ⊎ ((Answers answer.New × Failed rules disk before after (at unit.receiver (log.Accept unit)))
        ⊎ (Answers answer.Run × Failed rules disk (begun_by rules before unit.tid) after (at unit.receiver (log.Direct unit))))

    -- its receiver's volume is full
    abbrev pub IsFullLate : ℕ → Type 0
    IsFullLate size =
        (Answers answer.New × IsFull rules disk before after (at unit.receiver (log.Accept unit)) size)
        ⊎ (Answers answer.Run × IsFull rules disk before after (at unit.receiver (log.Direct unit)) size)

    -- memory was wanting at its receiver
    abbrev pub IsShortLate : Type 0
    IsShortLate =
        (Answers answer.New × FellBehind rules disk before after (event.Arrive unit.tid) (at unit.receiver (log.Accept unit)))
        ⊎ (Answers answer.Run
        × FellBehind rules disk (begun_by rules before unit.tid) after (event.Finish before.world.next_number) (at unit.receiver (log.Direct unit)))

  -- what came of a late request of an id
  abbrev pub LateAs : TidOf → Result Late LateEnd → Type 0
  LateAs tid (Ok given) = (unit : AleUnit) × IsLate rules before.world tid unit × CameAs unit given
  LateAs tid (Err (Full size)) = (unit : AleUnit) × IsLate rules before.world tid unit × IsFullLate unit size
  LateAs tid (Err OutOfMemory) = Stays rules disk before after ⊎ ((unit : AleUnit) × IsLate rules before.world tid unit × IsShortLate unit)
  LateAs tid (Err why) = IsRefused rules before.world tid why × (after ≡ before)

-- ---- steps, which private functions alone cite

-- the unit of which a late request may come, or why none may; memory may be wanting for it
abbrev pub IsLateUnit : {R : Type 0} → Meaning → World R → TidOf → Result AleUnit LateEnd → Type 0
IsLateUnit rules world tid (Ok unit) = IsLate rules world tid unit
IsLateUnit rules world tid (Err OutOfMemory) = ⊤
IsLateUnit rules world tid (Err why) = IsRefused rules world tid why

-- a request of a unit comes late, and its receiver answers so
pub record ComesLate {R : Type 0} (rules : Meaning) (world : World R) (unit : AleUnit) (given : Answer) : Type 0 where
  pub late : IsLate rules world unit.tid unit
  pub answers : answer_to rules world unit ≡ given

-- why a unit is not offered: it is marked CPICERR
abbrev pub is_marked_lost : Option NotOffered → Bool
is_marked_lost (Some (Marked mark)) = is_of_loss (Some mark)
is_marked_lost _ = false

-- what came of a late request, by how its record was appended
abbrev pub late_of : {T : Type 0} → Result T AppendEnd → Result Late LateEnd
late_of (Ok done) = Ok New
late_of (Err Volume) = Ok Down
late_of (Err (TooLong size)) = Err (Full size)
late_of (Err Before) = Err OutOfMemory
late_of (Err After) = Err OutOfMemory

-- the world has one claim more than the one before, on a run of a unit as it arrived: that was a landscape's, and the tables are in step with it
pub record IsOfRun {R A V : Type 0} (meaning : R → Meaning) (stands : A → List Record → Type 0) (before last : KeptOf R A V) : Type 0 where
  pub tid : TidOf
  pub system : ℕ
  pub claimed : last.world ≡ with_claim before.world tid system Direct
  pub landscape : IsLandscape meaning before.world
  pub in_step : AreInStepWith stands meaning before.world last.tables

-- whether a record was not appended, though no system fell
abbrev pub is_undone : {T : Type 0} → Result T AppendEnd → Bool
is_undone (Err (TooLong size)) = true
is_undone (Err Before) = true
is_undone _ = false

-- where the record of a run was not appended and no system fell, the claim of the run was made last
abbrev pub IsGivenBack : {R A V T : Type 0} → (R → Meaning) → (A → List Record → Type 0) → KeptOf R A V → KeptOf R A V → Result T AppendEnd → Type 0
IsGivenBack meaning stands before last result = is_undone result ≡ true → IsOfRun meaning stands before last

-- the claim of a run that was not appended is taken back, and nothing else changes
pub record GivesBack {R A V T : Type 0} (before last after : KeptOf R A V) (result : Result T AppendEnd) : Type 0 where
  pub undone : is_undone result ≡ true → (after.world ≡ before.world) × (after.tables ≡ last.tables) × KeepsVolumes last after
  pub done : is_undone result ≡ false → after ≡ last
