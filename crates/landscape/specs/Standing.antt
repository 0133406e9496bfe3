-- What is known of the tables of a system that is up.
use Rattle.std.specs.Prelude.{◌≡◌, ℕ, true, false, Option, Some, None, length}
use Rattle.dist_model.specs.declared.lists.Lists.{Lists}
use Rattle.dist_model.specs.Model.{IsModel}
use Rattle.said_models.specs.OfLog.{model_of}
use Rattle.document_state.specs.declared.document_tables.DocumentTables.{DocumentTables}
use Rattle.document_state.specs.OfLog.{sent_by, applied_by}
use Rattle.document_state.specs.Tables.{AreTablesOf}
use Rattle.trfc_protocol.specs.declared.world.World.{World}
use Rattle.trfc_protocol.specs.Legal.{IsLegal}
use Rattle.trfc_protocol.specs.Worlds.{is_up, log_of}
use Rattle.document_state.specs.declared.model_rules.ModelRules.{ModelRules}
use Rattle.document_state.specs.Meaning.{model_meaning}

-- a system is up, and these are the tables of its log, which is legal and has a model of the landscape's systems in force
pub record StandAt (world : World ModelRules) (system : ℕ) (tables : DocumentTables) : Type 0 where
  pub up : is_up world system ≡ true
  pub stand : AreTablesOf (log_of world system) tables
  pub legal : IsLegal (model_meaning world.rules.systems) system (log_of world system)
  pub model : Lists
  pub in_force : model_of (log_of world system) ≡ Some model
  pub kept : IsModel model
  pub many : length model.systems ≡ world.rules.systems
  pub sent : (sent_by (log_of world system)).past.system ≡ system
  pub applied : (applied_by (log_of world system)).system ≡ system

-- the tables of a system that is up, and none of one that is down
abbrev pub StandIfUp : World ModelRules → ℕ → Option DocumentTables → Type 0
StandIfUp world system (Some tables) = StandAt world system tables
StandIfUp world system None = is_up world system ≡ false

-- a system that is up works by this model; one that is down by none
abbrev pub WorksBy : World ModelRules → ℕ → Option Lists → Type 0
WorksBy world system (Some model) = (is_up world system ≡ true) × (model_of (log_of world system) ≡ Some model)
WorksBy world system None = is_up world system ≡ false
