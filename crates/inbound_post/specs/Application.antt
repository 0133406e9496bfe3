-- What a log made of the application of its system: the documents that came in with their statuses, the objects, and their change
-- pointers. Each record is taken under the model in force there. Statuses are SAP's (SAP Library, IDoc statuses); when each comes is this project's own.
use Rattle.std.specs.Prelude.{ℕ, zero, suc, ◌==◌, List, [], ◌∷◌, ◌++◌, fold, Option, Some, None, slice_get, slice_set, if◌then◌else◌}
use Rattle.std.specs.List.{filter_map}
use Rattle.std.specs.Option.{option_map_or}
use Rattle.dist_model.specs.declared.lists.Lists.{Lists}
use Rattle.dist_model.specs.Model.{message_named}
use Rattle.unit_core.specs.declared.ale_unit.AleUnit.{AleUnit}
use Rattle.unit_core.specs.declared.raw_unit_doc.RawUnitDoc.{RawUnitDoc}
use Rattle.unit_core.specs.declared.records.Record.{Record}
use Rattle.unit_core.specs.declared.records.Record.TheVariants.{Commit, Accept, Execute, Direct, Put, App, Repost, Model}
use Rattle.unit_core.specs.Queues.{unit_named}
use Rattle.log_models.specs.InForce.{in_force, models_after, system_after}
use Rattle.ale_base.specs.declared.change.FieldValue.{FieldValue}
use Rattle.object_store.specs.declared.posting.Outcome.{Outcome}
use Rattle.object_store.specs.declared.posting.Outcome.TheVariants.{Posted, Refused}
use Rattle.object_store.specs.declared.posting.Posting.{Posting}
use Rattle.object_store.specs.Objects.{ObjectsOf, no_objects}
use Rattle.object_store.specs.Posting.{applied, outcome_of, put_in}
use Rattle.change_pointers.specs.declared.pointer.Pointer.{Pointer}
use Rattle.change_pointers.specs.Noted.{noted_by}
use Rattle.change_pointers.specs.Pointers.{cleared}
use Rattle.change_pointers.specs.Renumbered.{renumbered}
use Rattle.status_log.specs.declared.status.Status.{Status}
use Rattle.status_log.specs.declared.status_at.StatusAt.{StatusAt}
use Rattle.status_log.specs.Statuses.{given_by, plain}
use Rattle.inbound_post.specs.declared.prepared.DocPosting.{DocPosting}
use Rattle.inbound_post.specs.declared.prepared.DocPosting.TheVariants.{Post, Waits, Errors}
use Rattle.inbound_post.specs.Reading.{posting}
use Rattle.inbound_post.specs.Prepared.{posting_from}

-- the status by what came of a posting: 53 posted, 51 not posted, with its reason
abbrev pub status_of : Outcome → Status
status_of Posted = plain 53
status_of (Refused reason) = record { code = 51; reason = reason }

-- an inbound document: the system that sent it, the document, and its statuses in order, each with the number of its record
pub record Arrived : Type 0 where
  pub sender : ℕ
  pub document : RawUnitDoc
  pub statuses : List StatusAt

-- what a system's application is: the units that were received, the inbound documents in the order in which their units were
-- executed, numbered from 1, the objects, the change pointers that no gathering has taken up yet, and how many records made it, with the one
-- that is being taken
pub record Application : Type 0 where
  pub received : List AleUnit
  pub documents : List Arrived
  pub objects : ObjectsOf
  pub pointers : List Pointer
  pub records : ℕ

-- nothing was received, and there are no objects and no records
abbrev pub no_application : Application
no_application = record { received = []; documents = []; objects = no_objects; pointers = []; records = 0 }

-- one more record is being taken
abbrev pub counted : Application → Application
counted application = record application { records = suc application.records }

-- the statuses of a document as it comes in: 50 added; 64 ready for the application and 62 passed to it where it is posted at once,
-- and then what came of that; 64 alone where it waits; 56 where there is no profile for it or it is not read
abbrev pub first_statuses : ObjectsOf → DocPosting → List Status
first_statuses objects (Post posting) = plain 50 ∷ plain 64 ∷ plain 62 ∷ status_of (outcome_of posting objects) ∷ []
first_statuses objects Waits = plain 50 ∷ plain 64 ∷ []
first_statuses objects Errors = plain 50 ∷ plain 56 ∷ []

-- the objects once a document came in
abbrev pub objects_with : DocPosting → ObjectsOf → ObjectsOf
objects_with (Post posting) objects = applied posting objects
objects_with _ objects = objects

-- one more inbound document, of which this becomes
abbrev pub arrived : ℕ → RawUnitDoc → DocPosting → Application → Application
arrived sender doc becomes application =
    record application {
      documents = application.documents
          ++ record { sender = sender; document = doc; statuses = given_by application.records (first_statuses application.objects becomes) } ∷ [];
      objects = objects_with becomes application.objects;
    }

-- one more inbound document of a system, from a sender
abbrev pub with_document : Lists → ℕ → ℕ → Application → RawUnitDoc → Application
with_document model system sender application doc = arrived sender doc (posting_from model system sender doc) application

-- a unit is executed: each of its documents comes in, in order
abbrev pub executed_with : Lists → ℕ → AleUnit → Application → Application
executed_with model system unit application = fold (with_document model system unit.sender) application unit.docs

-- documents come in, of which these become
abbrev pub arrived_all : ℕ → List RawUnitDoc → List DocPosting → Application → Application
arrived_all sender (doc ∷ docs) (becomes ∷ others) application = arrived_all sender docs others (arrived sender doc becomes application)
arrived_all sender _ _ application = application

-- a received unit is executed; nothing changes where it was not received
abbrev pub executed_if : Lists → ℕ → Application → Option AleUnit → Application
executed_if model system application None = application
executed_if model system application (Some unit) = executed_with model system unit application

-- one more unit was received
abbrev pub with_unit : AleUnit → Application → Application
with_unit unit application = record application { received = application.received ++ unit ∷ [] }

-- a document with further statuses
abbrev pub with_statuses : List StatusAt → Arrived → Arrived
with_statuses more document = record document { statuses = document.statuses ++ more }

-- a document is passed to the application again: 62, and what came of it; 56 where it is not read any more
abbrev pub passed : ℕ → Arrived → Application → Option Posting → Application
passed place document application (Some posting) =
    record application {
      documents = slice_set application.documents place
          (with_statuses (given_by application.records (plain 62 ∷ status_of (outcome_of posting application.objects) ∷ [])) document);
      objects = applied posting application.objects;
    }
passed place document application None =
    record application { documents = slice_set application.documents place (with_statuses (given_by application.records (plain 56 ∷ [])) document) }

-- the document at a place is passed to the application; nothing changes where there is none
abbrev pub passed_at : Lists → ℕ → Application → Option Arrived → Application
passed_at model place application None = application
passed_at model place application (Some document) = passed place document application (posting model document.document)

-- the document of a number, from 1, is passed to the application
abbrev pub passed_again : Lists → Application → ℕ → Application
passed_again model application zero = application
passed_again model application (suc place) = passed_at model place application (slice_get application.documents place)

-- an object gets values, and the pointers of what changes are noted
abbrev pub changed : Lists → List ℕ → List ℕ → List FieldValue → Application → Application
changed model kind key fields application =
    record application {
      objects = put_in kind key fields application.objects;
      pointers = application.pointers ++ noted_by model application.objects kind key fields;
    }

-- the pointers that a Commit leaves: a gathering takes those of its message type up
abbrev pub left_by : Lists → Option (List ℕ) → List Pointer → List Pointer
left_by model None pointers = pointers
left_by model (Some name) pointers = option_map_or (λ message. cleared message pointers) (message_named name model) pointers

-- what a system's application is behind one more record of its log
abbrev pub application_after : Lists → ℕ → Application → Record → Application
application_after model system application (Commit origin docs) = record application { pointers = left_by model origin application.pointers }
application_after model system application (Put kind key fields) = changed model kind key fields application
application_after model system application (Accept unit) = with_unit unit application
application_after model system application (Direct unit) = executed_with model system unit (with_unit unit application)
application_after model system application (Execute tid) = executed_if model system application (unit_named tid application.received)
application_after model system application (App doc) = passed_again model application doc.0
application_after model system application (Repost doc) = passed_again model application doc.0
application_after model system application _ = application

-- pointers when another model comes into force: numbers of message types are those of one model alone
abbrev pub pointers_under : Option Lists → Option Lists → List Pointer → List Pointer
pointers_under (Some before) (Some after) pointers = filter_map (renumbered before after) pointers
pointers_under before after pointers = pointers

-- what is known behind some records: how many models there were, the system of the first, and the application
pub record Past : Type 0 where
  pub models : ℕ
  pub system : ℕ
  pub application : Application

-- nothing is known
abbrev pub no_past : Past
no_past = record { models = 0; system = 0; application = no_application }

-- the application behind one more record, which is counted first: a Model record brings another model into force, and each other one is
-- taken under the model that is
abbrev pub next_application : List Lists → Past → Record → Application
next_application models past (Model text) =
    record (counted past.application)
    { pointers = pointers_under (in_force models past.models) (in_force models (suc past.models)) past.application.pointers }
next_application models past next =
    option_map_or (λ model. application_after model past.system (counted past.application) next) (in_force models past.models) (counted past.application)

-- what is known behind one more record
abbrev pub past_after : List Lists → Past → Record → Past
past_after models past next =
    record {
      models = models_after past.models next;
      system = system_after past.models past.system next;
      application = next_application models past next;
    }

-- what is known behind a log whose models these are, in order
unfoldable pub past_of : List Lists → List Record → Past
past_of models log = fold (past_after models) no_past log

-- the statuses of the inbound document of a number, from 1; none where there is no such document
abbrev pub statuses_at : List Arrived → ℕ → List StatusAt
statuses_at documents zero = []
statuses_at documents (suc place) = option_map_or (λ document. document.statuses) (slice_get documents place) []

-- the codes of the statuses that a record may give to the inbound document of a number. An App and a Repost give theirs only to the
-- document that they name
abbrev pub codes_of : ℕ → Record → List ℕ
codes_of number (Execute tid) = 50 ∷ 64 ∷ 62 ∷ 53 ∷ 51 ∷ 56 ∷ []
codes_of number (Direct unit) = 50 ∷ 64 ∷ 62 ∷ 53 ∷ 51 ∷ 56 ∷ []
codes_of number (App doc) = if number == doc.0 then 62 ∷ 53 ∷ 51 ∷ 56 ∷ [] else []
codes_of number (Repost doc) = if number == doc.0 then 62 ∷ 53 ∷ 51 ∷ 56 ∷ [] else []
codes_of number _ = []
