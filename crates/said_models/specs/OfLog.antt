-- The models of a log, by the texts that it has. This project's own.
use Rattle.std.specs.Prelude.{ℕ, Bool, false, not, List, [], ◌∷◌, Option, Some, None, fold}
use Rattle.std.specs.List.{filter_map}
use Rattle.std.specs.Option.{option_map_or, option_or}
use Rattle.ale_base.specs.Text.{is_text}
use Rattle.dist_model.specs.declared.lists.Lists.{Lists}
use Rattle.unit_core.specs.declared.records.Record.{Record}
use Rattle.unit_core.specs.declared.records.Record.TheVariants.{Genesis, Model}
use Rattle.log_models.specs.InForce.{in_force, models_in}
use Rattle.said_models.specs.Said.{said}

-- the text of the model that a record brings into force
abbrev pub text_of : Record → Option (List ℕ)
text_of (Genesis system text) = Some text
text_of (Model text) = Some text
text_of _ = None

-- the models of texts, up to the first that says none
abbrev pub said_all : List (List ℕ) → List Lists
said_all [] = []
said_all (text ∷ texts) = option_map_or (λ model. model ∷ said_all texts) (said text) []

-- the models of a log, in order, up to the first text that says none
abbrev pub models_of : List Record → List Lists
models_of log = said_all (filter_map text_of log)

-- the text in force behind a log is that of its last record with one
abbrev pub text_in_force : List Record → Option (List ℕ)
text_in_force log = fold (λ found next. option_or (text_of next) found) None log

-- whether another text than this one is in force behind a log, or none
abbrev pub differs : List ℕ → List Record → Bool
differs text log = not (option_map_or (is_text text) (text_in_force log) false)

-- the model in force behind a log: what its last text says; none where that or one before it says none, or there is none
abbrev pub model_of : List Record → Option Lists
model_of log = in_force (models_of log) (models_in log)
