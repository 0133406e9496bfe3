-- (a step of `EndedAs` and `IsWritten`) What the write of a record on a volume gives, and how it ends.
use Rattle.std.specs.Prelude.{◌≡◌, ◌≢◌, ◌↔◌, ◌<◌, ℕ, ◌-◌, true, Some, List, [], ◌∷◌, ◌++◌, Result, Ok, Err, OnOk, IsErrOf}
use Rattle.ale_volumes.specs.Disk.{Disk}
use Rattle.unit_core.specs.declared.ale_unit.AleUnit.{AleUnit}
use Rattle.unit_core.specs.declared.records.Record.{Record}
use Rattle.unit_codec.specs.Entries.{entry_with}
use Rattle.byte_journal.specs.Log.{most_bytes}
use Rattle.byte_journal.specs.declared.fault.AppendFault.{AppendFault}
use Rattle.byte_journal.specs.declared.fault.AppendFault.TheVariants.{Volume as VolumeFault, Full as FullAt, OutOfMemory}
use Rattle.trfc_protocol.specs.Meaning.{Meaning}
use Rattle.trfc_protocol.specs.Worlds.{is_up, with_fall}
use Rattle.trfc_protocol.specs.Safe.{AreApart}
use Rattle.unit_journal.specs.declared.journals.SystemJournals.{SystemJournals}
use Rattle.unit_journal.specs.OnDisk.{next_moment, moments_at, entries_at, length_with, IsOnDisk, IsLeftOnDisk}
use Rattle.unit_journal.specs.Changes.{LeftBy, OnlyAt}
use Rattle.unit_landscape.specs.declared.world_tables.WorldTables.{WorldTables}
use Rattle.unit_landscape.specs.Entered.{IsEntered, HasCount}
use Rattle.unit_landscape.specs.InStep.{AreInStepWith}
use Rattle.unit_landscape.specs.declared.append_end.AppendEnd.{AppendEnd}
use Rattle.unit_landscape.specs.declared.append_end.AppendEnd.TheVariants.{Volume, Full, Before, After}

-- the volume of a log is told to be full exactly where with the record it would have this length, which is over the most that it may have;
-- unless memory ran out before
abbrev pub IsFullAs : {T : Type 0} → ℕ → SystemJournals → List Record → Record → Result T AppendFault → Type 0
IsFullAs place before log next result =
    (size : ℕ) → result ≢ Err OutOfMemory
    → (result ≡ Err (FullAt size))
    ↔ ((size ≡ length_with (entries_at before place log) (entry_with (next_moment before place) next)) × (most_bytes < size))

-- a record was written behind the log at a place; or perhaps, where the volume failed; or not, where it is full or memory ran out
pub record IsWriteOf {D T : Type 0} (disk : Disk D) (old new : D) (place : ℕ) (before after : SystemJournals)
    (log : List Record) (next : Record) (result : Result T AppendFault) : Type 0 where
  pub written : OnOk result (IsOnDisk disk new place after (log ++ next ∷ []))
  pub torn : IsErrOf result VolumeFault → IsLeftOnDisk disk new place after log (Some next)
  pub unwritten : IsErrOf result OutOfMemory → IsOnDisk disk new place after log
  pub full : IsFullAs place before log next result
  pub full_same : (size : ℕ) → result ≡ Err (FullAt size) → new ≡ old
  pub left : LeftBy place before after result
  pub one : OnlyAt place before after
  pub grown : OnOk result (moments_at after place ≡ moments_at before place ++ next_moment before place ∷ [])
  pub others : (other : ℕ) → other ≢ place → disk.told → disk.volume new other ≡ disk.volume old other

-- how a write ends, by what the journal answered
abbrev pub ended_by : {T : Type 0} → Result T AppendFault → Result T AppendEnd
ended_by (Ok done) = Ok done
ended_by (Err VolumeFault) = Err Volume
ended_by (Err (FullAt size)) = Err (Full size)
ended_by (Err OutOfMemory) = Err Before

-- what was entered stays where the record was written, and is taken back where it was not; the system falls where its volume failed.
-- Nothing is noted here, so memory is not wanting afterwards
abbrev pub ConcludedAs : {R A E T : Type 0} → (before entered after : WorldTables R A E) → ℕ → Record → Result T AppendEnd → Type 0
ConcludedAs before entered after system next (Ok done) = after ≡ entered
ConcludedAs before entered after system next (Err Volume) = after.world ≡ with_fall before.world system (Some next)
ConcludedAs before entered after system next (Err (Full size)) = after ≡ before
ConcludedAs before entered after system next (Err Before) = after ≡ before
ConcludedAs before entered after system next (Err After) = ⊥

-- a world and its tables are those behind a record that was entered at a system that was up, which had committed so many units
pub record CanConclude {R A E : Type 0} (meaning : R → Meaning) (stands : A → List Record → Type 0) (now : WorldTables R A E) (system count : ℕ)
    : Type 0 where
  pub before : WorldTables R A E
  pub next : Record
  pub more : List AleUnit
  pub entered : IsEntered before now system next more
  pub counts : HasCount before.tables (system - 1) count
  pub up : is_up before.world system ≡ true
  pub apart : AreApart before.world.claims
  pub in_step : AreInStepWith stands meaning before.world before.tables
