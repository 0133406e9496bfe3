-- A system that is down is opened again: what a look at its volume finds, and what becomes of the landscape where that is entered.
use Rattle.std.specs.Prelude.{◌≡◌, ◌≢◌, ◌-◌, ℕ, Bool, true, false, Option, Some, None, List, [], ◌∷◌, slice_set, if◌then◌else◌, Result, Ok, Err, IsErrOf}
use Rattle.ale_base.specs.Tid.{TidOf}
use Rattle.ale_volumes.specs.Disk.{Disk}
use Rattle.ale_volumes.specs.Clock.{LeavesOnly, KeepsOthers}
use Rattle.ale_volumes.specs.Faults.{CountsFault}
use Rattle.byte_journal.specs.Log.{ReadsAs}
use Rattle.byte_journal.specs.Settled.{IsLeftByOpening, LeavesOnlyFromSync}
use Rattle.unit_core.specs.declared.records.Record.{Record}
use Rattle.unit_codec.specs.declared.entry.Entry.{Entry}
use Rattle.unit_journal.specs.declared.fault.LookFault.{LookFault}
use Rattle.unit_journal.specs.declared.fault.LookFault.TheVariants.{Volume, Changed, OutOfMemory}
use Rattle.unit_journal.specs.declared.looked.Looked.{Looked}
use Rattle.unit_journal.specs.Looking.{Answers, IsLooked, LeavesLooked, system_of, is_found, with_looked}
use Rattle.unit_journal.specs.OnDisk.{entries_at, rest_at}
use Rattle.trfc_protocol.specs.declared.event.Event.{Event}
use Rattle.trfc_protocol.specs.declared.event.Event.TheVariants.{Fall, Open}
use Rattle.trfc_protocol.specs.declared.held.Held.{Held}
use Rattle.trfc_protocol.specs.declared.held.HeldKind.{HeldKind}
use Rattle.trfc_protocol.specs.declared.world.World.{World}
use Rattle.trfc_protocol.specs.declared.world.SystemState.{SystemState}
use Rattle.trfc_protocol.specs.Meaning.{Meaning}
use Rattle.trfc_protocol.specs.Happens.{run}
use Rattle.trfc_protocol.specs.Worlds.{log_of, log_with, rest_of, state_of}
use Rattle.system_tables.specs.Tables.{TablesOf}
use Rattle.system_tables.specs.OfLog.{AreTablesOf}
use Rattle.log_tables.specs.OfLog.{no_claims}
use Rattle.unit_landscape.specs.Causes.{with_cause}
use Rattle.unit_landscape.specs.Claims.{claim_at}
use Rattle.unit_landscape.specs.KeptWorlds.{KeptOf}
use Rattle.unit_landscape.specs.declared.cause.Cause.{Cause}
use Rattle.unit_landscape.specs.declared.cause.Cause.TheVariants.{Up, Faulted}

-- the landscape has a system, and it is down
pub record IsDown {R : Type 0} (world : World R) (system : ℕ) : Type 0 where
  pub state : SystemState
  pub known : state_of world.systems system ≡ Some state
  pub down : state.up ≡ false

-- ---- the look

-- the entries of a system's log
abbrev pub entries_kept : {R A V : Type 0} → KeptOf R A V → ℕ → List Entry
entries_kept kept system = entries_at kept.journals (system - 1) (log_of kept.world system)

-- the causes behind a look: where the volume failed, the system is down by that
abbrev pub told_by_look : {T : Type 0} → List Cause → ℕ → Result T LookFault → List Cause
told_by_look causes system (Ok looked) = causes
told_by_look causes system (Err Volume) = with_cause causes system Faulted
told_by_look causes system (Err (Changed number)) = causes
told_by_look causes system (Err OutOfMemory) = causes

-- what was found is of a system that is down, as it is kept now: entered, it is on the disk for good
pub record IsFound {R A V : Type 0} (disk : Disk V) (kept : KeptOf R A V) (looked : Looked) : Type 0 where
  pub down : IsDown kept.world (system_of looked)
  pub entered : IsLooked disk kept.vols (system_of looked) kept.journals (log_of kept.world (system_of looked)) (rest_of kept.world (system_of looked)) looked

module _ {R A V : Type 0} (disk : Disk V) (before after : KeptOf R A V) (system : ℕ) where
  -- what is kept stays, but why the system is down where its volume failed
  pub record KeepsAll {T : Type 0} (result : Result T LookFault) : Type 0 where
    pub world : after.world ≡ before.world
    pub tables : after.tables ≡ before.tables
    pub journals : after.journals ≡ before.journals
    pub causes : after.causes ≡ told_by_look before.causes system result

  -- Which volume a look calls, and what it leaves of it. The volume stands for the log with the record that was being written or without,
  -- or for neither: the latter never where it tells what it holds. What a read gives is as before, but for a gate that is the last byte; a
  -- crash leaves what was there or what reads as it, from some moment on only the latter.
  pub record Looks (result : Result Looked LookFault) : Type 0 where
    pub read : disk.told → Answers (disk.volume before.vols (system - 1)).contents (entries_kept before system) (rest_at before.journals (system - 1))
        (rest_of before.world system) result
    pub unchanged : disk.told → (number : ℕ) → result ≢ Err (Changed number)
    pub leaves : disk.told → LeavesLooked (disk.volume before.vols (system - 1)) (disk.volume after.vols (system - 1)) result
    pub any_moment : disk.told → LeavesOnly disk before.vols after.vols (system - 1) (IsLeftByOpening (disk.volume before.vols (system - 1)))
    pub from_sync : disk.told → LeavesOnlyFromSync disk before.vols after.vols (system - 1)
        (IsErrOf result Volume) (ReadsAs (disk.volume before.vols (system - 1)).contents)
    pub others : disk.told → KeepsOthers disk before.vols after.vols (system - 1)
    pub faults : CountsFault (IsErrOf result Volume) (disk.faults before.vols) (disk.faults after.vols) (system - 1)

-- ---- what was found, entered

-- the record that a system was writing as it fell, where a look found it
abbrev pub rest_found : {R : Type 0} → World R → Looked → Option Record
rest_found world looked = if is_found looked then rest_of world (system_of looked) else None

-- the log of the system with what was found
abbrev pub log_looked : {R : Type 0} → World R → Looked → List Record
log_looked world looked = log_with (log_of world (system_of looked)) (rest_found world looked)

-- tables are those of that log, and no unit of the system is claimed
abbrev pub AreTablesLooked : {R A : Type 0} → (A → List Record → Type 0) → Meaning → World R → Looked → TablesOf A → Type 0
AreTablesLooked stands rules world looked its =
    AreTablesOf stands (rules.committed (system_of looked) (log_looked world looked)) (log_looked world looked) no_claims no_claims its

-- the events of an opening: a record that was being written, and was not found, is lost first
abbrev pub opening_events : Bool → ℕ → List Event
opening_events true system = Open system ∷ []
opening_events false system = Fall system None ∷ Open system ∷ []

-- A system is up with what was found, and with these tables; no journal but its own has changed.
pub record HasReopened {R A V : Type 0} (meaning : R → Meaning) (before after : KeptOf R A V) (looked : Looked) (its : TablesOf A) : Type 0 where
  pub world : after.world ≡ run meaning before.world (opening_events (is_found looked) (system_of looked))
  pub tables : after.tables ≡ slice_set before.tables (system_of looked - 1) its
  pub journals : after.journals ≡ with_looked looked before.journals
  pub causes : after.causes ≡ with_cause before.causes (system_of looked) Up

-- ---- the same of the parts of a landscape, which private functions alone cite

-- the state of a system that is open again: with the record that it was writing, where that was found
abbrev pub state_reopened : Bool → SystemState → SystemState
state_reopened found state = record { log = log_with state.log (if found then state.rest else None); up = true; rest = None }

-- no unit is claimed at a system
abbrev pub NoneAt : ℕ → List Held → Type 0
NoneAt system claims = (kind : HeldKind) (tid : TidOf) → claim_at kind system claims tid ≡ None
