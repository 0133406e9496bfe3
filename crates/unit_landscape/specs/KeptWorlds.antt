-- The world kept with its tables, journals and volumes.
use Rattle.std.specs.Prelude.{ℕ, List}
use Rattle.ale_volumes.specs.Disk.{Disk}
use Rattle.unit_core.specs.declared.records.Record.{Record}
use Rattle.trfc_protocol.specs.declared.world.World.{World}
use Rattle.trfc_protocol.specs.Meaning.{Meaning}
use Rattle.system_tables.specs.Tables.{TablesOf}
use Rattle.unit_landscape.specs.InStep.{AreInStepWith}
use Rattle.unit_landscape.specs.declared.world_tables.WorldTables.{WorldTables}
use Rattle.unit_journal.specs.declared.journals.SystemJournals.{SystemJournals}
use Rattle.unit_landscape.specs.OnVolumes.{AreOnVolumes}
use Rattle.unit_landscape.specs.declared.cause.Cause.{Cause}
use Rattle.unit_landscape.specs.declared.counted.Counted.{Counted}
use Rattle.unit_landscape.specs.Counted.{AreCounted}
use Rattle.unit_landscape.specs.Causes.{no_causes, cause_in, AreCausesOf}

-- the world, the tables of its systems, their journals and their volumes
pub record KeptOf (R A V : Type 0) : Type 0 where
  pub world : World R
  pub tables : List (TablesOf A)
  pub journals : SystemJournals
  pub vols : V
  -- for each system, by its number, why it is down, if it is
  pub causes : List Cause

-- the tables are in step with the world, and the volumes hold its logs
pub record IsStored {R A V : Type 0} (meaning : R → Meaning) (stands : A → List Record → Type 0) (disk : Disk V)
    (kept : KeptOf R A V) : Type 0 where
  pub in_step : AreInStepWith stands meaning kept.world kept.tables
  pub on_volumes : AreOnVolumes disk kept.vols kept.world.systems kept.journals

-- the same, and a cause is kept for each system, which says up exactly where the system is up
pub record IsKept {R A V : Type 0} (meaning : R → Meaning) (stands : A → List Record → Type 0) (disk : Disk V)
    (kept : KeptOf R A V) : Type 0 where
  pub in_step : AreInStepWith stands meaning kept.world kept.tables
  pub on_volumes : AreOnVolumes disk kept.vols kept.world.systems kept.journals
  pub causes : AreCausesOf kept.world.systems kept.causes

-- the same, and what is counted beside the logs is theirs
pub record IsRoom {R A V : Type 0} (meaning : R → Meaning) (stands : A → List Record → Type 0) (disk : Disk V)
    (kept : KeptOf R A V) (counts : Counted) : Type 0 where
  pub in_step : AreInStepWith stands meaning kept.world kept.tables
  pub on_volumes : AreOnVolumes disk kept.vols kept.world.systems kept.journals
  pub causes : AreCausesOf kept.world.systems kept.causes
  pub counted : AreCounted kept.world.systems counts

-- a world with its tables, journals and volumes, and no system of which it is told that it is down
abbrev pub kept_of : {R A E V : Type 0} → WorldTables R A E → SystemJournals → V → KeptOf R A V
kept_of both journals vols = record { world = both.world; tables = both.tables; journals = journals; vols = vols; causes = no_causes }

-- why a system is down, if it is
abbrev pub cause_at : {R A V : Type 0} → KeptOf R A V → ℕ → Cause
cause_at kept system = cause_in kept.causes system
