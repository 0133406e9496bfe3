-- What was entered, and can be taken back.
use Rattle.std.specs.Prelude.{◌≡◌, ℕ, ◌-◌, Some, List, length, slice_get}
use Rattle.unit_core.specs.declared.ale_unit.AleUnit.{AleUnit}
use Rattle.unit_core.specs.declared.records.Record.{Record}
use Rattle.trfc_protocol.specs.Worlds.{with_record}
use Rattle.system_tables.specs.Tables.{TablesOf, entered}
use Rattle.unit_landscape.specs.declared.world_tables.WorldTables.{WorldTables}
use Rattle.unit_landscape.specs.Changed.{ChangedAt}

-- a record joined the log of a system, and these units its table of units
pub record IsEntered {R A E : Type 0} (before after : WorldTables R A E) (system : ℕ) (next : Record) (more : List AleUnit) : Type 0 where
  pub world : after.world ≡ with_record before.world system next
  pub tables : ChangedAt (λ old now. now ≡ entered more old) (system - 1) before.tables after.tables

-- the system at a place committed so many units
abbrev pub HasCount : {A : Type 0} → List (TablesOf A) → ℕ → ℕ → Type 0
HasCount {A} tables place count = (its : TablesOf A) → slice_get tables place ≡ Some its → count ≡ length its.units
