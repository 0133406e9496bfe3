-- What noting the last record of a log asks.
use Rattle.std.specs.Prelude.{◌≡◌, ℕ, Option, Some, List, slice_get}
use Rattle.unit_core.specs.declared.ale_unit.AleUnit.{AleUnit}
use Rattle.unit_core.specs.declared.records.Record.{Record}
use Rattle.trfc_protocol.specs.Worlds.{last_of}
use Rattle.system_tables.specs.Tables.{TablesOf}
use Rattle.system_tables.specs.CanNote.{CanNote}

-- a log has a last record, which can be noted in the tables at a place
pub record IsToNote {A : Type 0} (log : List Record) (more : List AleUnit) (claim : Option ℕ) (place : ℕ) (tables : List (TablesOf A)) : Type 0 where
  pub next : Record
  pub last : last_of log ≡ Some next
  pub can : (its : TablesOf A) → slice_get tables place ≡ Some its → CanNote next more claim its
