-- What a landscape keeps beside what its protocol keeps: all logs begin with one model of its systems.
use Rattle.std.specs.Prelude.{◌≡◌, ◌≤◌, ℕ, List, ◌∷◌, Some, length}
use Rattle.dist_model.specs.declared.lists.Lists.{Lists}
use Rattle.unit_core.specs.declared.records.Record.{Record}
use Rattle.unit_core.specs.declared.records.Record.TheVariants.{Genesis}
use Rattle.said_models.specs.Said.{said}
use Rattle.trfc_protocol.specs.declared.world.World.{World}
use Rattle.trfc_protocol.specs.Worlds.{log_of}
use Rattle.document_state.specs.declared.model_rules.ModelRules.{ModelRules}

-- a log begins with the Genesis of its system, with this text, which says a model of so many systems
pub record IsBegun (text : List ℕ) (systems system : ℕ) (log : List Record) : Type 0 where
  pub rest : List Record
  pub model : Lists
  pub first : log ≡ Genesis system text ∷ rest
  pub says : said text ≡ Some model
  pub many : length model.systems ≡ systems

-- all logs of a world begin with one text, which says a model of its systems
pub record AreBegun (world : World ModelRules) : Type 0 where
  pub text : List ℕ
  pub each : (system : ℕ) → 1 ≤ system → system ≤ world.rules.systems → IsBegun text world.rules.systems system (log_of world system)
