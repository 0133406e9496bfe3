-- A volume that is opened, whatever log it holds, and the system that is up with that log.
use Rattle.std.specs.Prelude.{◌≡◌, ℕ, ⊤, ◌<◌, Option, List, [], ◌∷◌, ◌++◌, length, Result, Ok, Err}
use Rattle.ale_volumes.specs.Disk.{Disk}
use Rattle.byte_journal.specs.Log.{DamagedAt, ReadsAs}
use Rattle.unit_core.specs.declared.records.Record.{Record}
use Rattle.unit_codec.specs.declared.entry.Entry.{Entry}
use Rattle.unit_journal.specs.Log.{Stands, UnreadAt}
use Rattle.unit_journal.specs.declared.journals.SystemJournals.{SystemJournals}
use Rattle.unit_journal.specs.OnDisk.{AreInOrder, IsOnDisk, entries_at, moments_at}
use Rattle.unit_journal.specs.Changes.{IsNext}
use Rattle.trfc_protocol.specs.Meaning.{Meaning}
use Rattle.system_tables.specs.Tables.{TablesOf}
use Rattle.unit_landscape.specs.InStep.{AreInStepWith}
use Rattle.unit_landscape.specs.OnVolumes.{AreOnVolumes}
use Rattle.unit_landscape.specs.Causes.{AreCausesOf}
use Rattle.unit_landscape.specs.KeptWorlds.{KeptOf}
use Rattle.unit_landscape.specs.Opening.{BeginsLegal, with_log}
use Rattle.unit_landscape.specs.declared.opening.fault.OpenFault.{OpenFault}
use Rattle.unit_landscape.specs.declared.opening.fault.OpenFault.TheVariants.{Volume, Damaged, Unread, OutOfMemory}
use Rattle.unit_landscape.specs.declared.opening.fault.NotOpened.{NotOpened}

-- the systems that are opened, with the journals and the volumes after the opening of one volume more, and the log that it holds
pub record VolumeOf (R A V : Type 0) : Type 0 where
  pub kept : KeptOf R A V
  pub log : List Record

-- the place of that volume, from 0: behind those of the systems that are opened
abbrev pub place_in : {R A V : Type 0} → VolumeOf R A V → ℕ
place_in volume = length volume.kept.world.systems

-- the moments of its log
abbrev pub moments_in : {R A V : Type 0} → VolumeOf R A V → List (Option ℕ)
moments_in volume = moments_at volume.kept.journals (place_in volume)

-- the entries of its log
abbrev pub entries_in : {R A V : Type 0} → VolumeOf R A V → List Entry
entries_in volume = entries_at volume.kept.journals (place_in volume) volume.log

-- The systems that were opened are as they were, and the log of one volume more is on the disk for good. Where its moments are in
-- order, the volumes hold the logs of all systems with that one.
pub record IsVolume {R A V : Type 0} (meaning : R → Meaning) (stands : A → List Record → Type 0) (disk : Disk V)
    (now : VolumeOf R A V) : Type 0 where
  pub begins : BeginsLegal meaning now.kept.world
  pub few : place_in now < 16
  pub in_step : AreInStepWith stands meaning now.kept.world now.kept.tables
  pub causes : AreCausesOf now.kept.world.systems now.kept.causes
  pub found : IsOnDisk disk now.kept.vols (place_in now) now.kept.journals now.log
  pub on_volumes : AreInOrder (moments_in now) → AreOnVolumes disk now.kept.vols (with_log now.kept.world now.log).systems now.kept.journals

-- one volume more is opened: the world and the tables are as before, and so are the journals of the systems before it
pub record IsFound {R A V : Type 0} (before : KeptOf R A V) (after : VolumeOf R A V) : Type 0 where
  pub world : after.kept.world ≡ before.world
  pub tables : after.kept.tables ≡ before.tables
  pub causes : after.kept.causes ≡ before.causes
  pub journals : IsNext before.journals after.kept.journals

-- one system more is up with the log of the volume that was opened, behind all others, with these tables; all else is as before
pub record IsUp {R A V : Type 0} (its : TablesOf A) (before : VolumeOf R A V) (after : KeptOf R A V) : Type 0 where
  pub world : after.world ≡ with_log before.kept.world before.log
  pub tables : after.tables ≡ before.kept.tables ++ its ∷ []
  pub journals : after.journals ≡ before.kept.journals
  pub vols : after.vols ≡ before.kept.vols
  pub causes : after.causes ≡ before.kept.causes

-- ---- what an opening answers

-- why bytes stand for no log of entries; the volume may fail, and memory may run out
abbrev pub NoLogAs : List ℕ → OpenFault → Type 0
NoLogAs bytes (Damaged place) = DamagedAt bytes place
NoLogAs bytes (Unread number) = UnreadAt bytes number
NoLogAs bytes Volume = ⊤
NoLogAs bytes OutOfMemory = ⊤

-- bytes stand for the log that is found, with the moments that are kept of it at this place, or why for none
abbrev pub LogAs : List ℕ → SystemJournals → ℕ → Result (List Record) OpenFault → Type 0
LogAs bytes journals place (Ok log) = Stands bytes (entries_at journals place log)
LogAs bytes journals place (Err why) = NoLogAs bytes why

-- the volumes after an opening
abbrev pub vols_found : {R A V : Type 0} → Result (VolumeOf R A V) (NotOpened V) → V
vols_found (Ok volume) = volume.kept.vols
vols_found (Err failed) = failed.vols

-- bytes stand for the log that was found, with its moments, or why for none
abbrev pub FoundAs : {R A V : Type 0} → List ℕ → Result (VolumeOf R A V) (NotOpened V) → Type 0
FoundAs bytes (Ok volume) = Stands bytes (entries_in volume)
FoundAs bytes (Err failed) = NoLogAs bytes failed.why

-- what a crash may leave of the volume once it is read: what stands for that log, or after an error what reads as it did before
abbrev pub LeftFoundAs : {R A V : Type 0} → List ℕ → Result (VolumeOf R A V) (NotOpened V) → List ℕ → Type 0
LeftFoundAs bytes (Ok volume) image = Stands image (entries_in volume)
LeftFoundAs bytes (Err failed) image = ReadsAs bytes image
