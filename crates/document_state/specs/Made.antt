-- What goes with a record that follows a log.
use Rattle.std.specs.Prelude.{◌≡◌, Bool, true, false, IsTrue, List, Some}
use Rattle.std.specs.Arc.{arc_value}
use Rattle.std.specs.Option.{option_map}
use Rattle.unit_core.specs.declared.records.Record.{Record}
use Rattle.unit_core.specs.declared.records.Record.TheVariants.{Genesis, Commit, Dispatch, Execute, Direct, Model}
use Rattle.unit_core.specs.Queues.{unit_named}
use Rattle.dist_model.specs.declared.lists.Lists.{Lists}
use Rattle.said_models.specs.Said.{said}
use Rattle.said_models.specs.OfLog.{model_of}
use Rattle.document_state.specs.declared.made.Made.{Made}
use Rattle.document_state.specs.declared.made.Made.TheVariants.{Nothing, Brought, Sent, Postings, Executed}
use Rattle.document_state.specs.OfLog.{added_behind, applied_by, postings_behind}

-- whether a record is noted without anything made for it
abbrev pub is_noted_alone : Record → Bool
is_noted_alone (Genesis system text) = false
is_noted_alone (Commit origin docs) = false
is_noted_alone Dispatch = false
is_noted_alone (Direct unit) = false
is_noted_alone (Execute tid) = false
is_noted_alone (Model text) = false
is_noted_alone _ = true

-- What was made goes with a record behind a log: with a Genesis or a Model the model that its text says, with a Commit or a Dispatch what it
-- adds, with a Direct what becomes of the documents of its unit, and with an Execute the unit too, which was received, if a model is in
-- force. With every other record goes nothing.
abbrev pub GoesWith : List Record → Record → Made → Type 0
GoesWith log (Genesis system text) (Brought model) = option_map arc_value model ≡ said text
GoesWith log (Model text) (Brought model) = option_map arc_value model ≡ said text
GoesWith log (Commit origin docs) (Sent added) = added ≡ added_behind log (Commit origin docs)
GoesWith log Dispatch (Sent added) = added ≡ added_behind log Dispatch
GoesWith log (Direct unit) (Postings postings) = postings ≡ postings_behind log unit
GoesWith log (Execute tid) (Executed unit postings) =
    ((model : Lists) → model_of log ≡ Some model → unit_named tid (applied_by log).application.received ≡ Some (arc_value unit))
    × (postings ≡ postings_behind log (arc_value unit))
GoesWith log next Nothing = IsTrue (is_noted_alone next)
GoesWith log next made = ⊥
