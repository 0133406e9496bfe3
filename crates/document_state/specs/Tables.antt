-- Tables that stand for a log.
use Rattle.std.specs.Prelude.{◌≡◌, ◌↔◌, ◌≤◌, List, IsTrue}
use Rattle.std.specs.Arc.{arc_value}
use Rattle.std.specs.Option.{option_map}
use Rattle.unit_core.specs.declared.records.Record.{Record}
use Rattle.log_models.specs.InForce.{models_in}
use Rattle.said_models.specs.OfLog.{model_of}
use Rattle.outbound_build.specs.Tables.{AreTablesOf as AreSent}
use Rattle.inbound_post.specs.Tables.{AreTablesOf as AreApplied}
use Rattle.document_state.specs.declared.document_tables.DocumentTables.{DocumentTables}
use Rattle.document_state.specs.OfLog.{sent_by, applied_by}

-- the tables are those of a log: the model in force behind it, its outbound documents and units, and its application
pub record AreTablesOf (log : List Record) (tables : DocumentTables) : Type 0 where
  pub begun : IsTrue tables.has_begun ↔ (1 ≤ models_in log)
  pub model : option_map arc_value tables.model ≡ model_of log
  pub sent : AreSent (sent_by log) tables.outbound
  pub applied : AreApplied (applied_by log).application tables.inbound
