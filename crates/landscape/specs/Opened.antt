-- A landscape that is opened over volumes that hold logs: what their bytes are read as, what it is, and what is left of the volumes.
use Rattle.std.specs.Prelude.{◌≡◌, ◌≢◌, ◌⊎◌, ⊤, ℕ, suc, ◌-◌, ◌≤◌, ◌<◌, Option, List, [], ◌∷◌, length, Result, Ok, Err}
use Rattle.ale_base.specs.Faults.{Rose}
use Rattle.ale_volumes.specs.Disk.{Disk}
use Rattle.ale_volumes.specs.Clock.{KeepsVolume, LeavesOnly}
use Rattle.byte_journal.specs.Bytes.{IsAsBeforeButForATornGate, IsAsBeforeButForTheGate}
use Rattle.byte_journal.specs.Log.{DamagedAt, ReadsAs}
use Rattle.byte_journal.specs.Settled.{IsLeftByOpening, LeavesOnlyFromSync}
use Rattle.unit_core.specs.declared.ale_unit.AleUnit.{AleUnit}
use Rattle.unit_core.specs.declared.records.Record.{Record}
use Rattle.unit_core.specs.declared.records.Record.TheVariants.{Genesis}
use Rattle.unit_core.specs.Once.{Once}
use Rattle.unit_codec.specs.Entries.{entry_with}
use Rattle.unit_journal.specs.Log.{Stands, UnreadAt}
use Rattle.unit_journal.specs.Settled.{IsBeforeOrAfter}
use Rattle.unit_journal.specs.OnDisk.{entries_of, moment_of, moments_at}
use Rattle.trfc_protocol.specs.Start.{first_world}
use Rattle.trfc_protocol.specs.Worlds.{log_of}
use Rattle.log_reading.specs.declared.bad.BadRecord.{BadRecord}
use Rattle.log_reading.specs.Reading.{AreGoodTo, IsFirstBad}
use Rattle.once_check.specs.declared.breach.Breach.{Breach as OnceBreach}
use Rattle.once_check.specs.Breaches.{IsFirstBreach}
use Rattle.unit_landscape.specs.KeptWorlds.{KeptOf}
use Rattle.unit_landscape.specs.Opening.{logs_of}
use Rattle.unit_landscape.specs.Beginning.{AreBegunFrom}
use Rattle.document_state.specs.Meaning.{model_meaning}
use Rattle.document_state.specs.declared.document_tables.DocumentTables.{DocumentTables}
use Rattle.document_state.specs.declared.model_rules.ModelRules.{ModelRules}
use Rattle.landscape.specs.declared.open_end.OpenEnd.{OpenEnd}
use Rattle.landscape.specs.declared.open_end.OpenWhy.{OpenWhy}
use Rattle.landscape.specs.declared.open_end.OpenWhy.TheVariants as why
use Rattle.landscape.specs.declared.open_end.Refused.{Refused}
use Rattle.landscape.specs.declared.open_end.Refused.TheVariants.{Damaged, Unread, Bad, Breach}

-- ---- what the bytes of volumes are read as

-- logs of systems, by their numbers: the records, and a moment of each
pub record Logs : Type 0 where
  pub records : ℕ → List Record
  pub moments : ℕ → List (Option ℕ)

-- the volumes of the first systems, so many, stand for these logs; their bytes are given by the number of the system
abbrev pub AreHeld : ℕ → (ℕ → List ℕ) → Logs → Type 0
AreHeld count bytes logs = (system : ℕ) → 1 ≤ system → system ≤ count → Stands (bytes system) (entries_of (logs.moments system) (logs.records system))

-- how many systems there are, and the text of their model
module _ (systems : ℕ) (text : List ℕ) where
  -- each record of the log of a system is good, with its moment
  pub record IsGoodLog (system : ℕ) (moments : List (Option ℕ)) (log : List Record) : Type 0 where
    pub each : length moments ≡ length log
    pub good : AreGoodTo (model_meaning systems) system text moments log (length log)

  -- bytes stand for these records with their moments, and each of them is good
  pub record IsLogOf (system : ℕ) (bytes : List ℕ) (moments : List (Option ℕ)) (log : List Record) : Type 0 where
    pub stands : Stands bytes (entries_of moments log)
    pub good : IsGoodLog system moments log

  -- bytes stand for records with their moments, and this record of them is the first that is bad
  pub record IsBadLog (system : ℕ) (bytes : List ℕ) (bad : BadRecord) : Type 0 where
    pub moments : List (Option ℕ)
    pub log : List Record
    pub each : length moments ≡ length log
    pub stands : Stands bytes (entries_of moments log)
    pub is : IsFirstBad (model_meaning systems) system text moments log bad

  -- why bytes are no log of a system: where they are damaged, or else the first record that is no entry, or else the first that is bad
  abbrev pub IsRefusedAt : ℕ → List ℕ → Refused → Type 0
  IsRefusedAt system bytes (Damaged its place) = (its ≡ system) × DamagedAt bytes place
  IsRefusedAt system bytes (Unread its number) = (its ≡ system) × UnreadAt bytes number
  IsRefusedAt system bytes (Bad its bad) = (its ≡ system) × IsBadLog system bytes bad
  IsRefusedAt system bytes (Breach breach) = ⊥

  -- the units that each system committed, by its log
  abbrev pub committed_in : (ℕ → List Record) → ℕ → List AleUnit
  committed_in logs system = (model_meaning systems).committed system (logs system)

  -- there are logs of these systems alone
  abbrev pub AreWithin : (ℕ → List Record) → Type 0
  AreWithin logs = (system : ℕ) → (1 ≤ system → system ≤ systems → ⊥) → logs system ≡ []

  -- the logs of all systems are good, and keep the exactly-once law
  pub record AreSound (logs : Logs) : Type 0 where
    pub good : (system : ℕ) → 1 ≤ system → system ≤ systems → IsGoodLog system (logs.moments system) (logs.records system)
    pub within : AreWithin logs.records
    pub once : Once (committed_in logs.records) logs.records

  -- the bytes of each volume, by the number of its system
  module _ (bytes : ℕ → List ℕ) where
    -- the volumes of the first systems, so many, are read as these logs
    abbrev pub AreLogsTo : ℕ → Logs → Type 0
    AreLogsTo count logs =
        (system : ℕ) → 1 ≤ system → system ≤ count → IsLogOf system (bytes system) (logs.moments system) (logs.records system)

    -- the volumes of all systems are read as logs that keep the exactly-once law
    abbrev pub HoldSoundLogs : Type 0
    HoldSoundLogs = (logs : Logs) × AreSound logs × AreHeld systems bytes logs

    -- the volumes of all systems are read as logs, and this is the first breach of the exactly-once law in them
    abbrev pub IsBreached : OnceBreach → Type 0
    IsBreached breach =
        (logs : Logs) × AreLogsTo systems logs × AreWithin logs.records × IsFirstBreach (committed_in logs.records) logs.records breach

    -- the volumes of all systems before this one are read as logs, and that of this one is not: this is why
    pub record AreRefusedAt (refused : Refused) : Type 0 where
      pub count : ℕ
      pub less : count < systems
      pub logs : Logs
      pub before : AreLogsTo count logs
      pub is : IsRefusedAt (suc count) (bytes (suc count)) refused

    -- Why the volumes hold no logs of a landscape: by systems the first that is not read as a log, or else the first breach.
    abbrev pub AreRefused : Refused → Type 0
    AreRefused (Breach breach) = IsBreached breach
    AreRefused refused = AreRefusedAt refused

-- ---- the landscape that is opened

-- the moments of a log that begins: that of its Genesis, which was set, where there were none
abbrev pub begun_moments : Option ℕ → List (Option ℕ) → List (Option ℕ)
begun_moments set [] = set ∷ []
begun_moments set (first ∷ rest) = first ∷ rest

-- the first systems, so many, have begun with this moment where their logs had none, and all other moments are as before
pub record AreMomentsFrom (set : Option ℕ) (count : ℕ) (before after : ℕ → List (Option ℕ)) : Type 0 where
  pub begun : (system : ℕ) → 1 ≤ system → system ≤ count → after system ≡ begun_moments set (before system)
  pub others : (system : ℕ) → count < system → after system ≡ before system

-- the bytes that the volume of a system holds
abbrev pub bytes_in : {V : Type 0} → Disk V → V → ℕ → List ℕ
bytes_in disk vols system = (disk.volume vols (system - 1)).contents

-- the logs of what is kept
abbrev pub logs_in : {A V : Type 0} → KeptOf ModelRules A V → Logs
logs_in now = record { records = log_of now.world; moments = λ system. moments_at now.journals (system - 1) }

-- All of so many systems are up and no unit is claimed. The log of each is one that is good, or, where that is empty, its Genesis with
-- the text and the moment that was set; these logs keep the exactly-once law, and they are those that the volumes stood for.
pub record HasOpened {V : Type 0} (disk : Disk V) (many : ℕ) (text : List ℕ) (set : Option ℕ) (before : V)
    (now : KeptOf ModelRules DocumentTables V) : Type 0 where
  pub all : now.world.rules.systems ≡ many
  pub count : length now.world.systems ≡ many
  pub world : now.world ≡ first_world now.world.rules (logs_of now.world)
  pub moment : moment_of now.journals ≡ set
  pub logs : Logs
  pub sound : AreSound many text logs
  pub held : disk.told → AreHeld many (bytes_in disk before) logs
  pub records : AreBegunFrom text many logs.records (log_of now.world)
  pub moments : AreMomentsFrom set many logs.moments (λ system. moments_at now.journals (system - 1))

-- the volumes after an opening
abbrev pub vols_after : {A V : Type 0} → Result (KeptOf ModelRules A V) (OpenEnd V) → V
vols_after (Ok landscape) = landscape.vols
vols_after (Err end) = end.vols

-- an opening ended before all was done
abbrev pub HasEndedEarly : {T V : Type 0} → Result T (OpenEnd V) → Type 0
HasEndedEarly (Ok landscape) = ⊥
HasEndedEarly (Err end) = ⊤

-- the ends other than that where the volumes are refused; by these a volume that stood for the empty log may stand for a Genesis
abbrev pub MayBegin : OpenWhy → Type 0
MayBegin why.Volume = ⊤
MayBegin (why.Refused refused) = ⊥
MayBegin why.OutOfMemory = ⊤

-- the same of an answer: the volumes are not refused
abbrev pub IsNotRefused : {T V : Type 0} → Result T (OpenEnd V) → Type 0
IsNotRefused (Ok landscape) = ⊤
IsNotRefused (Err end) = MayBegin end.why

module _ {V : Type 0} (disk : Disk V) (text : List ℕ) (set : Option ℕ) (before : V) where
  -- the volume at a place stood for the empty log, and the bytes stand for that, or for the Genesis of its system alone
  pub record IsBeginning (place : ℕ) (image : List ℕ) : Type 0 where
    pub empty : Stands (disk.volume before place).contents []
    pub is : IsBeforeOrAfter [] (entry_with set (Genesis (suc place) text)) image

  -- what a crash at any moment of the opening leaves of the volume at a place: what was handed in, or what reads as it; or, where
  -- systems may have begun, of one that stood for the empty log what stands for that, or for the Genesis of its system alone
  abbrev pub IsLeft : Type 0 → ℕ → List ℕ → Type 0
  IsLeft begins place image = IsLeftByOpening (disk.volume before place) image ⊎ (begins × IsBeginning place image)

  -- what it leaves once the volume was read: what reads as what was handed in, so what stands for the log that it stood for; or the
  -- Genesis in the same way
  abbrev pub IsLeftRead : Type 0 → ℕ → List ℕ → Type 0
  IsLeftRead begins place image = ReadsAs (disk.volume before place).contents image ⊎ (begins × IsBeginning place image)

module _ {V : Type 0} (disk : Disk V) (before after : V) where
  -- What a read of the volume at a place gives: what it gave before, but for a gate that is its last byte. That is closed; or, where the
  -- volume failed, it may be any byte. Of a volume that stood for the empty log this is not said where systems may have begun.
  abbrev pub IsAsItWas : Type 0 → ℕ → Type 0
  IsAsItWas begins place =
      IsAsBeforeButForTheGate (disk.volume before place).contents (disk.volume after place).contents
      ⊎ ((Rose (disk.faults before place) (disk.faults after place)
      × IsAsBeforeButForATornGate (disk.volume before place).contents (disk.volume after place).contents)
      ⊎ (begins × Stands (disk.volume before place).contents []))

module _ {V : Type 0} (disk : Disk V) (many : ℕ) (text : List ℕ) (set : Option ℕ) (before after : V) where
  -- A crash leaves so of each volume: of those of the systems, from some moment on, what reads as what was handed in, if the opening has
  -- not ended early with the volume as it was. A read gives what it gave, but for a gate, where no Genesis may have been appended. The
  -- volumes behind those of the systems are as before.
  pub record LeavesOpening (begins early : Type 0) : Type 0 where
    pub leaves : (place : ℕ) → LeavesOnly disk before after place (IsLeft disk text set before begins place)
    pub from_sync : (place : ℕ) → place < many → LeavesOnlyFromSync disk before after place early (IsLeftRead disk text set before begins place)
    pub reads : (place : ℕ) → IsAsItWas disk before after begins place
    pub beyond : (place : ℕ) → many ≤ place → KeepsVolume disk before after place

  -- why an opening ended so: a call on a volume failed; or the volumes hold no logs of a landscape, and this is why; or memory was wanting
  abbrev pub WhyEnded : OpenWhy → Type 0
  WhyEnded why.Volume = ⊤
  WhyEnded (why.Refused refused) = disk.told → AreRefused many text (bytes_in disk before) refused
  WhyEnded why.OutOfMemory = ⊤

  -- a landscape is opened only where the volumes hold sound logs
  abbrev pub WhyOpened : {T : Type 0} → Result T (OpenEnd V) → Type 0
  WhyOpened (Ok landscape) = disk.told → HoldSoundLogs many text (bytes_in disk before)
  WhyOpened (Err end) = WhyEnded end.why

-- no volume failed
abbrev pub NoneFailed : {V : Type 0} → Disk V → V → V → Type 0
NoneFailed disk before after = (place : ℕ) → disk.faults after place ≡ disk.faults before place

module _ {V : Type 0} (disk : Disk V) (many : ℕ) (text : List ℕ) (before after : V) where
  -- the volume of one system failed, and no other volume; where that is told, the volumes of the systems before it are read as logs
  pub record OneFailed : Type 0 where
    pub place : ℕ
    pub within : place < many
    pub rose : Rose (disk.faults before place) (disk.faults after place)
    pub others : (other : ℕ) → other ≢ place → disk.faults after other ≡ disk.faults before other
    pub logs_before : disk.told → (logs : Logs) × AreLogsTo many text (bytes_in disk before) place logs

  -- by why an opening ended: one volume failed, or none
  abbrev pub EndedByFault : OpenWhy → Type 0
  EndedByFault why.Volume = OneFailed
  EndedByFault (why.Refused refused) = NoneFailed disk before after
  EndedByFault why.OutOfMemory = NoneFailed disk before after

  -- the same of an answer
  abbrev pub FaultsOpened : {T : Type 0} → Result T (OpenEnd V) → Type 0
  FaultsOpened (Ok landscape) = NoneFailed disk before after
  FaultsOpened (Err end) = EndedByFault end.why
