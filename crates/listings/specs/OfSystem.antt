-- The tables of a system that works by models.
use Rattle.std.specs.Prelude.{ℕ, List, Option}
use Rattle.ale_base.specs.Tid.{TidOf}
use Rattle.unit_core.specs.declared.ale_unit.AleUnit.{AleUnit}
use Rattle.unit_core.specs.declared.records.Record.{Record}
use Rattle.system_tables.specs.Tables.{TablesOf}
use Rattle.system_tables.specs.OfLog.{AreTablesOf}
use Rattle.document_state.specs.declared.document_tables.DocumentTables.{DocumentTables}
use Rattle.document_state.specs.Tables.{AreTablesOf as AreDocumentsOf}

-- tables are those of a log, of the units that it commits and of the claims on outgoing and on incoming units, and its documents are kept
-- beside them
abbrev pub AreSystemOf : List AleUnit → List Record → (TidOf → Option ℕ) → (TidOf → Option ℕ) → TablesOf DocumentTables → Type 0
AreSystemOf committed log sent arrived tables = AreTablesOf (λ documents records. AreDocumentsOf records documents) committed log sent arrived tables
