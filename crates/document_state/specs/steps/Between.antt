-- Tables once a record is noted under the model in force before it, and before its own text comes into force; for `AreTablesOf` of `Tables`.
use Rattle.std.specs.Prelude.{◌≡◌, ◌↔◌, ◌≤◌, List, [], ◌∷◌, ◌++◌, IsTrue}
use Rattle.std.specs.Arc.{arc_value}
use Rattle.std.specs.Option.{option_map}
use Rattle.unit_core.specs.declared.records.Record.{Record}
use Rattle.log_models.specs.InForce.{models_in}
use Rattle.said_models.specs.OfLog.{model_of}
use Rattle.outbound_build.specs.Tables.{AreTablesOf as AreSent}
use Rattle.inbound_post.specs.Application.{counted}
use Rattle.inbound_post.specs.Tables.{AreTablesOf as AreApplied}
use Rattle.document_state.specs.declared.document_tables.DocumentTables.{DocumentTables}
use Rattle.document_state.specs.OfLog.{sent_by, applied_by}
use Rattle.document_state.specs.declared.made.Made.{Made}
use Rattle.document_state.specs.declared.made.Made.TheVariants.{Nothing, Brought}
use Rattle.document_state.specs.Made.{GoesWith}
use Rattle.document_state.specs.steps.Applying.{applied_under, is_plain}

-- the model in force is that of the log; the outbound side and the application have the record
pub record IsBetween (log : List Record) (next : Record) (tables : DocumentTables) : Type 0 where
  pub begun : IsTrue tables.has_begun ↔ (1 ≤ models_in log)
  pub model : option_map arc_value tables.model ≡ model_of log
  pub sent : AreSent (sent_by (log ++ next ∷ [])) tables.outbound
  pub applied : AreApplied (applied_under (model_of log) (applied_by log).system (counted (applied_by log).application) next) tables.inbound

-- what was made goes with a record under the model before it; nothing needs to go with one that neither takes documents nor adds any
abbrev pub GoesUnder : List Record → Record → Made → Type 0
GoesUnder log next Nothing = IsTrue (is_plain next)
GoesUnder log next (Brought model) = ⊥
GoesUnder log next made = GoesWith log next made
