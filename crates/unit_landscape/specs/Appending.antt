-- What is known of a record that is appended for an event, and how its appending ends. Only private functions cite this: for the calls,
-- `Ends` and `Calls` say it.
use Rattle.std.specs.Prelude.{◌≡◌, ◌⊎◌, ℕ, ◌-◌, Bool, true, false, Option, Some, List, ◌∷◌, [], ◌++◌, Result, Ok, Err, slice_get, if◌then◌else◌}
use Rattle.std.specs.Option.{option_map_or}
use Rattle.ale_volumes.specs.Disk.{Disk}
use Rattle.ale_base.specs.Tid.{TidOf, is_tid}
use Rattle.ale_base.specs.declared.mark.Mark.TheVariants.{Cpicerr, Sysfail}
use Rattle.ale_base.specs.declared.out_of_memory.OutOfMemory.{OutOfMemory}
use Rattle.unit_core.specs.declared.ale_unit.AleUnit.{AleUnit}
use Rattle.unit_core.specs.declared.records.Record.{Record}
use Rattle.unit_core.specs.declared.records.Record.TheVariants as log
use Rattle.unit_core.specs.Filters.{taken_by, done_in, ended_in}
use Rattle.unit_core.specs.Queues.{is_listed}
use Rattle.trfc_protocol.specs.declared.world.World.{World}
use Rattle.trfc_protocol.specs.declared.answer.Answer.{Answer}
use Rattle.trfc_protocol.specs.declared.held.Held.{Held}
use Rattle.trfc_protocol.specs.declared.held.HeldKind.TheVariants.{Out}
use Rattle.trfc_protocol.specs.declared.event.Event.{Event}
use Rattle.trfc_protocol.specs.Meaning.{Meaning}
use Rattle.trfc_protocol.specs.Worlds.{log_of, is_up, committed_unit, claim_of, is_kind}
use Rattle.trfc_protocol.specs.Offered.{may_arrive, answer_to}
use Rattle.trfc_protocol.specs.RecordOf.{Writing}
use Rattle.system_tables.specs.Tables.{TablesOf}
use Rattle.unit_landscape.specs.KeptWorlds.{KeptOf}
use Rattle.unit_landscape.specs.declared.append_end.AppendEnd.{AppendEnd}
use Rattle.unit_landscape.specs.declared.append_end.AppendEnd.TheVariants.{Volume, Full, Before, After}
use Rattle.unit_landscape.specs.declared.claims.OutClaim.{OutClaim}
use Rattle.unit_landscape.specs.declared.claims.InClaim.{InClaim}
use Rattle.unit_landscape.specs.declared.appending.Appended.{Appended}
use Rattle.unit_landscape.specs.declared.appending.Appended.TheVariants.{Written, Fallen}
use Rattle.unit_landscape.specs.declared.answers.Finished.{Finished}
use Rattle.unit_landscape.specs.declared.answers.Finished.TheVariants as finished
use Rattle.unit_landscape.specs.declared.answers.Replied.{Replied}
use Rattle.unit_landscape.specs.declared.answers.Replied.TheVariants as replied
use Rattle.unit_landscape.specs.declared.answers.Confirmed.{Confirmed}
use Rattle.unit_landscape.specs.declared.answers.Confirmed.TheVariants as confirmed
use Rattle.unit_landscape.specs.declared.answers.Closed.{Closed}
use Rattle.unit_landscape.specs.declared.answers.Closed.TheVariants as closed
use Rattle.unit_landscape.specs.declared.answers.WorkEnd.{WorkEnd}
use Rattle.unit_landscape.specs.declared.answers.WorkEnd.TheVariants as end
use Rattle.unit_landscape.specs.declared.answers.OperatorEnd.{OperatorEnd}
use Rattle.unit_landscape.specs.declared.answers.OperatorEnd.TheVariants as operator
use Rattle.unit_landscape.specs.Writes.{Appends}
use Rattle.unit_landscape.specs.Calls.{receiver_of, is_forgotten}
use Rattle.unit_landscape.specs.Ends.{Happened, Failed, Overflowed, Stays, FellBehind, AppendsAs}

-- some event appends a record, which commits these units; and this was made of it for the application
pub record IsDue {R A E V : Type 0} (meaning : R → Meaning) (goes_with : A → List Record → Record → E → Type 0) (kept : KeptOf R A V) (system : ℕ)
    (next : Record)
    (more : List AleUnit) (claim : Option ℕ) (extra : E) : Type 0 where
  pub event : Event
  pub appends : Appends (meaning kept.world.rules) kept.world system next claim event
  pub commits : (meaning kept.world.rules).committed system (log_of kept.world system ++ next ∷ []) ≡ (meaning kept.world.rules).committed system
      (log_of kept.world system) ++ more
  pub goes : (its : TablesOf A) → slice_get kept.tables (system - 1) ≡ Some its → goes_with its.application (log_of kept.world system) next extra

-- a record and its system
abbrev pub at : ℕ → Record → Writing
at system next = record { system = system; next = next }

-- a record that some event appends was appended as each such event says
abbrev pub EndsAs : {R A V T : Type 0} → Meaning → Disk V → KeptOf R A V → KeptOf R A V → ℕ → Record → Option ℕ → Result T AppendEnd → Type 0
EndsAs rules disk before after system next claim result =
    (e : Event) → Appends rules before.world system next claim e → AppendsAs rules disk before after e (at system next) result

module _ {R A V : Type 0} (rules : Meaning) (disk : Disk V) (before after : KeptOf R A V) where
  -- a record was appended for an event, or its system fell
  abbrev pub WrittenAs : Event → Writing → Result Appended OutOfMemory → Type 0
  WrittenAs e it (Ok Written) = Happened rules disk before after e
  WrittenAs e it (Ok Fallen) = Failed rules disk before after it ⊎ Overflowed rules disk before after it
  WrittenAs e it (Err short) = Stays rules disk before after ⊎ FellBehind rules disk before after e it

  -- it was so as each event says that appends this record
  abbrev pub EndsSo : ℕ → Record → Option ℕ → Result Appended OutOfMemory → Type 0
  EndsSo system next claim result = (e : Event) → Appends rules before.world system next claim e → WrittenAs e (at system next) result

-- a committed unit may arrive, and its receiver answers so
pub record Arrives {R : Type 0} (rules : Meaning) (world : World R) (unit : AleUnit) (given : Answer) : Type 0 where
  pub committed : committed_unit rules world unit.tid ≡ Some unit
  pub may : may_arrive rules world unit ≡ true
  pub answer : answer_to rules world unit ≡ given

-- a claim to execute a unit stands, and this is it
pub record HoldsIn {R : Type 0} (world : World R) (claim : InClaim) (held : Held) : Type 0 where
  pub found : claim_of claim.number world.claims ≡ Some held
  pub its : held.tid ≡ claim.tid
  pub kind : is_kind held.kind Out ≡ false

-- a claim to ship a unit stands, and this is it
pub record HoldsOut {R : Type 0} (world : World R) (claim : OutClaim) (held : Held) : Type 0 where
  pub found : claim_of claim.number world.claims ≡ Some held
  pub its : held.tid ≡ claim.tid
  pub kind : held.kind ≡ Out

-- the record of a receipt: the unit is done where the receipt counts, and else marked
abbrev pub record_of_receipt : TidOf → Bool → Record
record_of_receipt tid is_done = if is_done then log.Done tid else log.Mark tid Cpicerr

-- the record of a shipment that failed, by whether the receiver refused its unit
abbrev pub record_of_refusal : TidOf → Bool → Record
record_of_refusal tid is_refused = log.Mark tid (if is_refused then Sysfail else Cpicerr)

-- whether a record takes in the unit of an id
abbrev pub takes : TidOf → Record → Bool
takes tid next = option_map_or (λ (unit : AleUnit). is_tid unit.tid tid) (taken_by next) false

-- how the work of a claim ended, by how its record was appended: so where it stands in its log
abbrev pub finished_of : Finished → Result Appended OutOfMemory → Result Finished WorkEnd
finished_of written (Ok Written) = Ok written
finished_of written (Ok Fallen) = Ok finished.Down
finished_of written (Err short) = Err end.OutOfMemory

-- what a sender did with a reply, by how its record was appended
abbrev pub replied_of : Result Appended OutOfMemory → Result Replied WorkEnd
replied_of (Ok Written) = Ok replied.Recorded
replied_of (Ok Fallen) = Ok replied.Down
replied_of (Err short) = Err end.OutOfMemory

-- what a receiver did with a confirmation, by how its record was appended
abbrev pub confirmed_of : Result Appended OutOfMemory → Result Confirmed OutOfMemory
confirmed_of (Ok Written) = Ok confirmed.Forgotten
confirmed_of (Ok Fallen) = Ok confirmed.Down
confirmed_of (Err short) = Err short

-- what a sender did with the reply to a confirmation, by how its record was appended
abbrev pub closed_of : Result Appended OutOfMemory → Result Closed OutOfMemory
closed_of (Ok Written) = Ok closed.Recorded
closed_of (Ok Fallen) = Ok closed.Down
closed_of (Err short) = Err short

-- how an operator's record was appended
abbrev pub operated_of : {T : Type 0} → Result T AppendEnd → Result T OperatorEnd
operated_of (Ok done) = Ok done
operated_of (Err Volume) = Err operator.Volume
operated_of (Err (Full size)) = Err (operator.Full size)
operated_of (Err Before) = Err operator.OutOfMemory
operated_of (Err After) = Err operator.OutOfMemory

-- the id of a unit that is done is to be forgotten by its receiver, which is up and knows it
pub record IsToForget {R : Type 0} (rules : Meaning) (world : World R) (tid : TidOf) (receiver : ℕ) : Type 0 where
  pub done : is_listed tid (done_in (log_of world tid.system)) ≡ true
  pub its : receiver ≡ receiver_of rules world tid
  pub up : is_up world receiver ≡ true
  pub known : is_forgotten rules world tid ≡ false

-- a sender that is up is to record that an id is forgotten, and has not done so
pub record IsToEnd {R : Type 0} (rules : Meaning) (world : World R) (tid : TidOf) (sender : ℕ) : Type 0 where
  pub forgotten : is_forgotten rules world tid ≡ true
  pub its : sender ≡ tid.system
  pub up : is_up world sender ≡ true
  pub lasts : is_listed tid (ended_in (log_of world sender)) ≡ false
