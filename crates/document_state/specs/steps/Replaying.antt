-- A log replayed from its first record; for `model_meaning` of `Meaning`.
use Rattle.std.specs.Prelude.{◌≡◌, ℕ, true, List, [], map}
use Rattle.unit_core.specs.declared.ale_unit.AleUnit.{AleUnit}
use Rattle.unit_core.specs.declared.records.Record.{Record}
use Rattle.said_models.specs.OfLog.{models_of}
use Rattle.outbound_build.specs.Committed.{committed_of}
use Rattle.document_state.specs.declared.made.Made.{Made}
use Rattle.document_state.specs.declared.made.Made.TheVariants.{Sent}
use Rattle.document_state.specs.Tables.{AreTablesOf}
use Rattle.trfc_protocol.specs.Legal.{IsLegal, may_follow}
use Rattle.document_state.specs.declared.replay.Replay.{Replay}
use Rattle.document_state.specs.Meaning.{model_meaning}

-- what came of a log: its tables, and the units that it commits
pub record IsReplayOf (log : List Record) (replay : Replay) : Type 0 where
  pub tables : AreTablesOf log replay.tables
  pub units : replay.units ≡ committed_of (models_of log) log

-- a record may follow a legal log of a system, in a landscape of some number of systems
pub record IsNext (system : ℕ) (log : List Record) (next : Record) : Type 0 where
  pub systems : ℕ
  pub legal : IsLegal (model_meaning systems) system log
  pub may : may_follow (model_meaning systems) system log next ≡ true

-- the units that were made for a record
abbrev pub units_made : Made → List AleUnit
units_made (Sent added) = map (λ one. one.unit) added.units
units_made _ = []
