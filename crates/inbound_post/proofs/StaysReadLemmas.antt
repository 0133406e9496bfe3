-- Inbound documents that were read when they came in are read again: which of them have a posting under the model in force.
use Rattle.std.specs.Prelude.{⊤, find, fold, slice_get, slice_set}
use Rattle.std.specs.List.{AllByRecursion}
use Rattle.std.specs.Option.{option_map_or}
use Rattle.std.proofs.Common.{◌≡◌, ◌⊎◌, inl, inr, ℕ, zero, suc, Option, Some, None, List, [], ◌∷◌, refl, sym, ap, ◌∙◌}
use Rattle.ale_base.proofs.ListLemmas.{AllByRecursion-append, AllByRecursion-at}
use Rattle.idoc_record.specs.declared.control_field.ControlField.TheVariants.{Mestyp}
use Rattle.idoc_record.specs.Control.{field_of}
use Rattle.dist_model.specs.declared.inbound.Inbound.{Inbound}
use Rattle.dist_model.specs.declared.inbound.InboundMode.{InboundMode}
use Rattle.dist_model.specs.declared.lists.Lists.{Lists}
use Rattle.dist_model.specs.Inbound.{is_inbound}
use Rattle.unit_core.specs.declared.ale_unit.AleUnit.{AleUnit}
use Rattle.unit_core.specs.declared.raw_unit_doc.RawUnitDoc.{RawUnitDoc}
use Rattle.unit_core.specs.declared.records.Record.{Record}
use Rattle.unit_core.specs.declared.records.Record.TheVariants as log
use Rattle.unit_core.specs.Queues.{unit_named}
use Rattle.object_store.specs.declared.posting.Posting.{Posting}
use Rattle.status_log.specs.declared.status_at.StatusAt.{StatusAt}
use Rattle.status_log.specs.Statuses.{bare, given_by, plain}
use Rattle.inbound_post.specs.declared.prepared.DocPosting.{DocPosting}
use Rattle.inbound_post.specs.declared.prepared.DocPosting.TheVariants.{Errors}
use Rattle.inbound_post.specs.Application.{Application, Arrived, application_after, executed_if, first_statuses, passed, passed_again}
use Rattle.inbound_post.specs.Application.{passed_at, with_document, with_unit}
use Rattle.inbound_post.specs.Prepared.{by_mode, posting_from}
use Rattle.inbound_post.specs.Reading.{posting}

-- a document was an error as it came in, and nothing else became of it
abbrev pub IsError : Arrived → Type 0
IsError document = bare document.statuses ≡ plain 50 ∷ plain 56 ∷ []

-- an inbound document is an error, or has a posting under a model
abbrev pub IsRead : Lists → Arrived → Type 0
IsRead model document = IsError document ⊎ (posting model document.document ≡ None → ⊥)

-- so is each of an application
abbrev pub AreRead : Lists → Application → Type 0
AreRead model application = AllByRecursion (IsRead model) application.documents

-- the document of a number, from 1, is no error
abbrev pub IsNoError : List Arrived → ℕ → Type 0
IsNoError documents zero = ⊤
IsNoError documents (suc place) = (document : Arrived) → slice_get documents place ≡ Some document → IsError document → ⊥

-- a record passes no error to the application again
abbrev pub PassesNoError : Application → Record → Type 0
PassesNoError application (log.App doc) = IsNoError application.documents doc.0
PassesNoError application (log.Repost doc) = IsNoError application.documents doc.0
PassesNoError application _ = ⊤

-- what becomes of a document is an error, or it has a posting
from-read : (model : Lists) (receiver sender : ℕ) (doc : RawUnitDoc) → (posting_from model receiver sender doc ≡ Errors) ⊎ (posting model doc ≡ None → ⊥)
from-read model receiver sender doc = of_profile (find (is_inbound receiver sender (field_of doc.control Mestyp)) model.inbound)
  where
    of_posting : (mode : InboundMode) (made : Option Posting) → (option_map_or (by_mode mode) made Errors ≡ Errors) ⊎ (made ≡ None → ⊥)
    of_posting mode None = inl refl
    of_posting mode (Some made) = inr (λ none. let lies : Some made ≡ None = none in absurd (cc))

    of_profile : (found : Option Inbound)
        → (option_map_or (λ profile. option_map_or (by_mode profile.mode) (posting model doc) Errors) found Errors ≡ Errors) ⊎ (posting model doc ≡ None → ⊥)
    of_profile None = inl refl
    of_profile (Some profile) = of_posting profile.mode (posting model doc)

arrived-read : (model : Lists) (system sender : ℕ) (application : Application) (doc : RawUnitDoc) → AreRead model application
    → AreRead model (with_document model system sender application doc)
arrived-read model system sender application doc all =
    AllByRecursion-append (IsRead model) application.documents
    (record { sender = sender; document = doc; statuses = its (posting_from model system sender doc) } ∷ []) all
    (own (from-read model system sender doc), tt)
  where
    its : DocPosting → List StatusAt
    its becomes = given_by application.records (first_statuses application.objects becomes)

    own : (posting_from model system sender doc ≡ Errors) ⊎ (posting model doc ≡ None → ⊥)
        → IsRead model (record { sender = sender; document = doc; statuses = its (posting_from model system sender doc) })
    own (inl error) = inl (ap (λ (becomes : DocPosting). bare (its becomes)) error)
    own (inr read) = inr read

executed-read : (model : Lists) (system sender : ℕ) (docs : List RawUnitDoc) (application : Application) → AreRead model application
    → AreRead model (fold (with_document model system sender) application docs)
executed-read model system sender [] application all = all
executed-read model system sender (doc ∷ docs) application all =
    executed-read model system sender docs (with_document model system sender application doc) (arrived-read model system sender application doc all)

all-set : {A : Type 0} (P : A → Type 0) (xs : List A) (k : ℕ) (y : A) → AllByRecursion P xs → P y → AllByRecursion P (slice_set xs k y)
all-set P [] k y all is = tt
all-set P (x ∷ xs) zero y all is = (is, all.1)
all-set P (x ∷ xs) (suc k) y all is = (all.0, all-set P xs k y all.1 is)

passed-read : (model : Lists) (application : Application) (number : ℕ) → IsNoError application.documents number → AreRead model application
    → AreRead model (passed_again model application number)
passed-read model application zero none all = all
passed-read model application (suc place) none all = of_document (slice_get application.documents place) refl
  where
    of_posting : (document : Arrived) → slice_get application.documents place ≡ Some document → (made : Option Posting)
        → posting model document.document ≡ made → AreRead model (passed place document application made)
    of_posting document here None made = elim (AllByRecursion-at (IsRead model) application.documents place document all here) [
      | inl error ↦ absurd (none document here error)
      | inr read ↦ absurd (read made)
    ]
    of_posting document here (Some posting) made =
        all-set (IsRead model) application.documents place _ all (inr (λ lacks. let lies = sym made ∙ lacks in absurd (cc)))

    of_document : (found : Option Arrived) → slice_get application.documents place ≡ found → AreRead model (passed_at model place application found)
    of_document None here = all
    of_document (Some document) here = of_posting document here (posting model document.document) refl

-- one more record leaves no document unread, if it passes no error to the application again
pub application-read : (model : Lists) (system : ℕ) (application : Application) (next : Record) → PassesNoError application next
    → AreRead model application → AreRead model (application_after model system application next)
application-read model system application (log.Direct unit) none all = executed-read model system unit.sender unit.docs (with_unit unit application) all
application-read model system application (log.Execute tid) none all = of_unit (unit_named tid application.received)
  where
    of_unit : (found : Option AleUnit) → AreRead model (executed_if model system application found)
    of_unit None = all
    of_unit (Some unit) = executed-read model system unit.sender unit.docs application all
application-read model system application (log.App doc) none all = passed-read model application doc.0 none all
application-read model system application (log.Repost doc) none all = passed-read model application doc.0 none all
application-read model system application _ none all = all
