-- How an append ends.
use Rattle.std.specs.Prelude.{◌≡◌, ◌≢◌, ◌↔◌, ◌<◌, ℕ, ◌-◌, ⊤, true, Option, Some, None, List, [], ◌∷◌, ◌++◌, Result, Ok, Err, slice_get}
use Rattle.ale_volumes.specs.Disk.{Disk}
use Rattle.unit_core.specs.declared.ale_unit.AleUnit.{AleUnit}
use Rattle.unit_core.specs.declared.records.Record.{Record}
use Rattle.trfc_protocol.specs.declared.world.World.{World}
use Rattle.byte_journal.specs.Log.{most_bytes}
use Rattle.unit_codec.specs.Entries.{entry_with}
use Rattle.unit_codec.specs.Condition.{IsWritable}
use Rattle.trfc_protocol.specs.Meaning.{Meaning}
use Rattle.trfc_protocol.specs.Worlds.{log_of, is_up, with_record, with_fall}
use Rattle.trfc_protocol.specs.Safe.{AreApart}
use Rattle.system_tables.specs.Tables.{TablesOf, entered}
use Rattle.unit_journal.specs.declared.journals.SystemJournals.{SystemJournals}
use Rattle.unit_journal.specs.OnDisk.{next_moment, moments_at, entries_at, length_with}
use Rattle.unit_journal.specs.Changes.{with_rest, OnlyAt}
use Rattle.unit_landscape.specs.declared.world_tables.WorldTables.{WorldTables}
use Rattle.unit_landscape.specs.Changed.{ChangedAt}
use Rattle.unit_landscape.specs.InStep.{AreInStepWith}
use Rattle.unit_landscape.specs.Joining.{JoinsAt, after_record}
use Rattle.unit_landscape.specs.KeptWorlds.{KeptOf}
use Rattle.unit_landscape.specs.OnVolumes.{AreOnVolumes}
use Rattle.unit_landscape.specs.declared.append_end.AppendEnd.{AppendEnd}
use Rattle.unit_landscape.specs.declared.append_end.AppendEnd.TheVariants.{Volume, Full, Before, After}

-- a volume that failed takes its system down with the record perhaps on it; where it is full, or memory is wanting before the record
-- is written, the world is as it was; want of memory afterwards takes the system down behind the record
abbrev pub EndedAs : {R : Type 0} → World R → World R → ℕ → Record → AppendEnd → Type 0
EndedAs world after system next Volume = after ≡ with_fall world system (Some next)
EndedAs world after system next (Full place) = after ≡ world
EndedAs world after system next Before = after ≡ world
EndedAs world after system next After = after ≡ with_fall (with_record world system next) system None

-- a record was appended, and the claim that it ends is gone; or the append ended otherwise
abbrev pub AppendedAs : {R T : Type 0} → World R → World R → ℕ → Record → Option ℕ → Result T AppendEnd → Type 0
AppendedAs world after system next claim (Ok done) = after ≡ after_record world system next claim
AppendedAs world after system next claim (Err end) = EndedAs world after system next end

-- the moments of one log have one more, that of the record, and all other journals are as before
pub record HasOneMore (place : ℕ) (before after : SystemJournals) : Type 0 where
  pub one : OnlyAt place before after
  pub grown : moments_at after place ≡ moments_at before place ++ next_moment before place ∷ []

-- the moment of a record that was written stands behind those of its log; where the volume failed it is kept, since the record may be
-- found; else the journals are as before
abbrev pub JournalsAs : {T : Type 0} → ℕ → SystemJournals → SystemJournals → Result T AppendEnd → Type 0
JournalsAs place before after (Ok done) = HasOneMore place before after
JournalsAs place before after (Err After) = HasOneMore place before after
JournalsAs place before after (Err Volume) = after ≡ with_rest place (next_moment before place) before
JournalsAs place before after (Err (Full length)) = after ≡ before
JournalsAs place before after (Err Before) = after ≡ before

-- where the volume is full nothing has changed, and before the record is written want of memory changes nothing but perhaps what lies
-- behind the log on the volume
abbrev pub UnchangedAs : {R A V T : Type 0} → KeptOf R A V → KeptOf R A V → Result T AppendEnd → Type 0
UnchangedAs before after (Err (Full length)) = after ≡ before
UnchangedAs before after (Err Before) = (after.world ≡ before.world) × (after.tables ≡ before.tables) × (after.journals ≡ before.journals)
UnchangedAs before after _ = ⊤

-- The volume of a log is told to be full exactly where with the record it would have this length, which is over the most that it may have;
-- unless memory ran out before.
abbrev pub FullAs : {T : Type 0} → ℕ → SystemJournals → List Record → Record → Result T AppendEnd → Type 0
FullAs place journals log next result =
    (size : ℕ) → result ≢ Err Before
    → (result ≡ Err (Full size))
    ↔ ((size ≡ length_with (entries_at journals place log) (entry_with (next_moment journals place) next)) × (most_bytes < size))

-- what is known of a record that is written at a system: the system is up, the claims differ, and the record follows the rules of its
-- fields
pub record IsToWrite {R : Type 0} (world : World R) (system : ℕ) (next : Record) : Type 0 where
  pub up : is_up world system ≡ true
  pub apart : AreApart world.claims
  pub writable : IsWritable next

-- what is known of a record that is appended: beside that, it joins the log, which commits these units behind those before, it ends
-- this claim, and this was made of it for the application
pub record IsToAppend {R A E V : Type 0} (meaning : R → Meaning) (goes_with : A → List Record → Record → E → Type 0) (kept : KeptOf R A V) (system : ℕ)
    (next : Record)
    (more : List AleUnit) (claim : Option ℕ) (extra : E) : Type 0 where
  pub writes : IsToWrite kept.world system next
  pub joins : JoinsAt (meaning kept.world.rules) kept.world system next more claim
  pub goes : (its : TablesOf A) → slice_get kept.tables (system - 1) ≡ Some its → goes_with its.application (log_of kept.world system) next extra

-- a record joined the log of a system, its units were entered, and it is on the disk
pub record IsWritten {R A V : Type 0} (disk : Disk V) (before after : KeptOf R A V) (system : ℕ) (next : Record)
    (more : List AleUnit) : Type 0 where
  pub world : after.world ≡ with_record before.world system next
  pub entered : ChangedAt (λ old now. now ≡ entered more old) (system - 1) before.tables after.tables
  pub on_volumes : AreOnVolumes disk after.vols after.world.systems after.journals

-- a world and its tables are those behind a record that was entered, and is not noted yet
pub record IsBehind {R A E Extra : Type 0} (meaning : R → Meaning) (stands : A → List Record → Type 0) (goes_with : A → List Record → Record → Extra → Type 0)
    (now : WorldTables R A E)
    (system : ℕ) (more : List AleUnit) (claim : Option ℕ) (extra : Extra) : Type 0 where
  pub world : World R
  pub tables : List (TablesOf A)
  pub next : Record
  pub in_step : AreInStepWith stands meaning world tables
  pub up : is_up world system ≡ true
  pub apart : AreApart world.claims
  pub joins : JoinsAt (meaning world.rules) world system next more claim
  pub goes : (its : TablesOf A) → slice_get tables (system - 1) ≡ Some its → goes_with its.application (log_of world system) next extra
  pub appended : now.world ≡ with_record world system next
  pub entered : ChangedAt (λ old after. after ≡ entered more old) (system - 1) tables now.tables
