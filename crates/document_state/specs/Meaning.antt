-- What the models of logs say of them: the rules by which the protocol reads the logs of a landscape.
use Rattle.std.specs.Prelude.{ℕ, Bool, false, List}
use Rattle.std.specs.Option.{option_map_or}
use Rattle.unit_core.specs.declared.records.Record.{Record}
use Rattle.said_models.specs.OfLog.{models_of, model_of}
use Rattle.outbound_build.specs.Committed.{committed_of}
use Rattle.inbound_post.specs.Prepared.{offers}
use Rattle.trfc_protocol.specs.Meaning.{Meaning}
use Rattle.document_state.specs.Allowed.{allowed}

-- whether a system offers a function behind a log, by the model in force there
abbrev pub offered : ℕ → List Record → List ℕ → Bool
offered system log function = option_map_or (λ model. offers model system function) (model_of log) false

-- the rules of a landscape of so many systems: a log commits the units that its Commits and Dispatches make by the models in force there.
-- Whose log it is its Genesis says, so for the units and for what may follow the system is not asked
abbrev pub model_meaning : ℕ → Meaning
model_meaning systems = record {
  systems = systems;
  committed = λ system log. committed_of (models_of log) log;
  allows = λ system log next. allowed systems log next;
  offers = offered;
}
