-- One more record for the application under the model in force, for `applied_by` of `OfLog`.
use Rattle.std.specs.Prelude.{◌≡◌, ℕ, Bool, true, false, IsTrue, List, [], Option, Some, option_and_then}
use Rattle.std.specs.Arc.{arc_value}
use Rattle.std.specs.Option.{option_map_or}
use Rattle.dist_model.specs.declared.lists.Lists.{Lists}
use Rattle.unit_core.specs.declared.ale_unit.AleUnit.{AleUnit}
use Rattle.unit_core.specs.declared.records.Record.{Record}
use Rattle.unit_core.specs.declared.records.Record.TheVariants.{Commit, Dispatch, Direct, Execute, Model}
use Rattle.unit_core.specs.Queues.{unit_named}
use Rattle.said_models.specs.Said.{said}
use Rattle.outbound_build.specs.declared.added.Added.{Added}
use Rattle.outbound_build.specs.Added.{adds_any}
use Rattle.outbound_build.specs.Committed.{no_more}
use Rattle.inbound_post.specs.declared.prepared.DocPosting.{DocPosting}
use Rattle.inbound_post.specs.Prepared.{prepared}
use Rattle.inbound_post.specs.Application.{Application, application_after, pointers_under}
use Rattle.document_state.specs.declared.made.Made.{Made}
use Rattle.document_state.specs.declared.made.Made.TheVariants.{Nothing, Brought, Sent, Postings, Executed}

-- the model in force behind a text, by whether there was one before it and the model in force there: what it says, unless a text before
-- is not known
abbrev pub said_behind : Bool → Option Lists → List ℕ → Option Lists
said_behind false before text = said text
said_behind true before text = option_and_then (λ model. said text) before

-- the application after a record, which it has counted already, under the model in force; it stays where there is none
abbrev pub applied_under : Option Lists → ℕ → Application → Record → Application
applied_under found system application next = option_map_or (λ model. application_after model system application next) found application

-- the application once a record is noted: where that brings another model into force, the pointers go by its numbers
abbrev pub renumbered_at : Option Lists → Option Lists → Record → Application → Application
renumbered_at before after (Model text) application = record application { pointers = pointers_under before after application.pointers }
renumbered_at before after _ application = application

-- what becomes of the documents of a unit under the model in force
abbrev pub postings_under : Option Lists → ℕ → AleUnit → List DocPosting
postings_under found system unit = option_map_or (λ model. (prepared model system unit).postings) found []

-- what was made says what a record adds to the outbound documents and units
abbrev pub AddsAs : Made → Added → Type 0
AddsAs (Sent made) added = added ≡ made
AddsAs _ added = added ≡ no_more

-- whether a record neither takes documents from elsewhere nor adds any
abbrev pub is_plain : Record → Bool
is_plain (Commit origin docs) = false
is_plain Dispatch = false
is_plain (Direct unit) = false
is_plain (Execute tid) = false
is_plain _ = true

-- what was made goes with a record, as far as the application is concerned
abbrev pub MadeUnder : Option Lists → ℕ → Application → Record → Made → Type 0
MadeUnder found system application next (Sent added) = IsTrue (adds_any next)
MadeUnder found system application (Direct unit) (Postings postings) = postings ≡ postings_under found system unit
MadeUnder found system application (Execute tid) (Executed unit postings) =
    ((model : Lists) → found ≡ Some model → unit_named tid application.received ≡ Some (arc_value unit))
    × (postings ≡ postings_under found system (arc_value unit))
MadeUnder found system application next Nothing = IsTrue (is_plain next)
MadeUnder found system application next (Brought model) = IsTrue (is_plain next)
MadeUnder found system application next made = ⊥
