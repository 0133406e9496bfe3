-- The steps of an opening: volumes are read one by one, and then the systems whose logs are empty begin one by one.
use Rattle.std.specs.Prelude.{◌≡◌, ⊤, ℕ, suc, ◌-◌, ◌≤◌, Option, List, Result, Ok, Err, length}
use Rattle.ale_volumes.specs.Disk.{Disk}
use Rattle.ale_volumes.specs.Clock.{LeavesOnly}
use Rattle.ale_volumes.specs.Volume.{IsImage}
use Rattle.unit_journal.specs.OnDisk.{count_of, moment_of, moments_at}
use Rattle.trfc_protocol.specs.Meaning.{Meaning}
use Rattle.trfc_protocol.specs.Legal.{IsLegal}
use Rattle.trfc_protocol.specs.Worlds.{log_of}
use Rattle.system_tables.specs.Tables.{TablesOf}
use Rattle.system_tables.specs.OfLog.{AreTablesOf}
use Rattle.log_tables.specs.OfLog.{no_claims}
use Rattle.log_reading.specs.declared.bad.BadRecord.{BadRecord}
use Rattle.log_reading.specs.Reading.{IsFirstBad}
use Rattle.unit_landscape.specs.KeptWorlds.{KeptOf}
use Rattle.unit_landscape.specs.declared.beginning.BeginEnd.{BeginEnd}
use Rattle.unit_landscape.specs.declared.beginning.BeginEnd.TheVariants as begin
use Rattle.unit_landscape.specs.declared.opening.fault.OpenFault.{OpenFault}
use Rattle.unit_landscape.specs.declared.opening.fault.OpenFault.TheVariants as open_fault
use Rattle.unit_landscape.specs.Volumes.{IsUp, VolumeOf, moments_in, place_in}
use Rattle.unit_landscape.specs.Beginning.{AreBegunFrom}
use Rattle.document_state.specs.Meaning.{model_meaning}
use Rattle.document_state.specs.Tables.{AreTablesOf as AreDocumentTables}
use Rattle.document_state.specs.declared.document_tables.DocumentTables.{DocumentTables}
use Rattle.document_state.specs.declared.model_rules.ModelRules.{ModelRules}
use Rattle.landscape.specs.declared.open_end.OpenEnd.{OpenEnd}
use Rattle.landscape.specs.declared.open_end.OpenWhy.{OpenWhy}
use Rattle.landscape.specs.declared.open_end.OpenWhy.TheVariants as why
use Rattle.landscape.specs.declared.open_end.Refused.TheVariants as refused
use Rattle.landscape.specs.Opened.{AreHeld, AreMomentsFrom, AreSound, EndedByFault, HoldSoundLogs, IsGoodLog, LeavesOpening, Logs, MayBegin}
use Rattle.landscape.specs.Opened.{NoneFailed, WhyEnded, bytes_in, logs_in}

-- why no landscape is opened, by why the volume of a system was not
abbrev pub why_opened : ℕ → OpenFault → OpenWhy
why_opened system open_fault.Volume = why.Volume
why_opened system (open_fault.Damaged place) = why.Refused (refused.Damaged system place)
why_opened system (open_fault.Unread number) = why.Refused (refused.Unread system number)
why_opened system open_fault.OutOfMemory = why.OutOfMemory

-- why no landscape is opened, by why a system did not begin
abbrev pub why_begun : BeginEnd → OpenWhy
why_begun begin.Volume = why.Volume
why_begun begin.OutOfMemory = why.OutOfMemory

-- the same of an answer
abbrev pub begun_of : {T : Type 0} → Result T BeginEnd → Result T OpenWhy
begun_of (Ok done) = Ok done
begun_of (Err end) = Err (why_begun end)

-- what the rules of a landscape mean
abbrev pub rules_of : ModelRules → Meaning
rules_of rules = model_meaning rules.systems

-- the system of the volume, whose log it holds
abbrev pub system_of : {V : Type 0} → VolumeOf ModelRules DocumentTables V → ℕ
system_of volume = suc (place_in volume)

-- each record of the log that a volume holds is good, and these are its tables
pub record IsReadLog {V : Type 0} (text : List ℕ) (volume : VolumeOf ModelRules DocumentTables V) (its : TablesOf DocumentTables) : Type 0 where
  pub good : IsGoodLog volume.kept.world.rules.systems text (system_of volume) (moments_in volume) volume.log
  pub legal : IsLegal (rules_of volume.kept.world.rules) (system_of volume) volume.log
  pub tables : AreTablesOf (λ (tables : DocumentTables) log. AreDocumentTables log tables)
      ((rules_of volume.kept.world.rules).committed (system_of volume) volume.log) volume.log no_claims no_claims its

-- this record of the log that a volume holds is the first that is bad
pub record IsBadIn {V : Type 0} (text : List ℕ) (volume : VolumeOf ModelRules DocumentTables V) (system : ℕ) (bad : BadRecord) : Type 0 where
  pub here : system ≡ system_of volume
  pub each : length (moments_in volume) ≡ length volume.log
  pub is : IsFirstBad (rules_of volume.kept.world.rules) system text (moments_in volume) volume.log bad

-- the log that a volume holds is read: its tables, or the first bad record, or memory was wanting
abbrev pub IsReadBy : {V : Type 0} → List ℕ → VolumeOf ModelRules DocumentTables V → Result (TablesOf DocumentTables) OpenWhy → Type 0
IsReadBy text volume (Ok its) = IsReadLog text volume its
IsReadBy text volume (Err (why.Refused (refused.Bad system bad))) = IsBadIn text volume system bad
IsReadBy text volume (Err why.OutOfMemory) = ⊤
IsReadBy text volume (Err _) = ⊥

-- the system of a volume is up with the log that it holds and the tables of that, or why that is no log of this system
abbrev pub IsUpBy : {V : Type 0} → List ℕ → VolumeOf ModelRules DocumentTables V → Result (KeptOf ModelRules DocumentTables V) (OpenEnd V) → Type 0
IsUpBy text volume (Ok next) = (its : TablesOf DocumentTables) × IsReadLog text volume its × IsUp its volume next
IsUpBy text volume (Err end) = (end.vols ≡ volume.kept.vols) × IsReadBy text volume (Err end.why)

module _ {V : Type 0} (disk : Disk V) (many : ℕ)
    (text : List ℕ) (set : Option ℕ) (before : V) where
  -- the volumes of so many systems are read as logs, and each of these systems is up with its own
  pub record AreOpened (count : ℕ) (now : KeptOf ModelRules DocumentTables V) : Type 0 where
    pub all : now.world.rules.systems ≡ many
    pub opened : length now.world.systems ≡ count
    pub journals : count_of now.journals ≡ count
    pub moment_set : moment_of now.journals ≡ set
    pub good : (system : ℕ) → 1 ≤ system → system ≤ count
        → IsGoodLog many text system (moments_at now.journals (system - 1)) (log_of now.world system)
    pub held : disk.told → AreHeld count (bytes_in disk before) (logs_in now)
    pub leaves : disk.told → LeavesOpening disk count text set before now.vols ⊥ ⊥
    pub unread : disk.told → (place : ℕ) → count ≤ place → LeavesOnly disk before now.vols place (IsImage (disk.volume before place))
    pub none_failed : NoneFailed disk before now.vols

  -- all volumes are read as logs that keep the law, and the first of the systems, so many, have begun
  pub record AreBegunSoFar (count : ℕ) (now : KeptOf ModelRules DocumentTables V) : Type 0 where
    pub all : now.world.rules.systems ≡ many
    pub moment_set : moment_of now.journals ≡ set
    pub logs : Logs
    pub sound : AreSound many text logs
    pub held : disk.told → AreHeld many (bytes_in disk before) logs
    pub records : AreBegunFrom text count logs.records (log_of now.world)
    pub moments : AreMomentsFrom set count logs.moments (λ system. moments_at now.journals (system - 1))
    pub leaves : disk.told → LeavesOpening disk many text set before now.vols ⊤ ⊥
    pub none_failed : NoneFailed disk before now.vols

  -- an opening ended before all was done
  pub record HasEnded (end : OpenEnd V) : Type 0 where
    pub why : WhyEnded disk many text set before end.vols end.why
    pub not_refused : disk.told → HoldSoundLogs many text (bytes_in disk before) → MayBegin end.why
    pub leaves : disk.told → LeavesOpening disk many text set before end.vols (MayBegin end.why × HoldSoundLogs many text (bytes_in disk before)) ⊤
    pub faulted : EndedByFault disk many text before end.vols end.why

  -- so many volumes are opened, or how else it ended
  abbrev pub OpensAs : ℕ → Result (KeptOf ModelRules DocumentTables V) (OpenEnd V) → Type 0
  OpensAs count (Ok now) = AreOpened count now
  OpensAs count (Err end) = HasEnded end

  -- so many systems have begun, or how else it ended
  abbrev pub BeginsAs : ℕ → Result (KeptOf ModelRules DocumentTables V) (OpenEnd V) → Type 0
  BeginsAs count (Ok now) = AreBegunSoFar count now
  BeginsAs count (Err end) = HasEnded end

  -- the next system has begun, or why it has not
  abbrev pub BeginsNext : ℕ → KeptOf ModelRules DocumentTables V → {T : Type 0} → Result T OpenWhy → Type 0
  BeginsNext count now (Ok done) = AreBegunSoFar count now
  BeginsNext count now (Err why) = HasEnded (record { why = why; vols = now.vols })
