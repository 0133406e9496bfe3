-- The tables of an application, and what one more document or one more status does to them.
use Rattle.std.specs.Prelude.{slice_get, slice_set}
use Rattle.std.specs.Option.{option_map, option_map_or}
use Rattle.std.proofs.Common.{◌≡◌, ◌≢◌, ℕ, inl, inr, zero, suc, ◌==◌, Option, Some, None, List, [], ◌∷◌, ◌++◌, length, map, if◌then◌else◌, refl, ap, sym, subst}
use Rattle.std.proofs.Common.{◌∙◌}
use Rattle.std.proofs.lemmas.Option.{slice_get-map}
use Rattle.std.proofs.lemmas.Bool.Decides.{eqb_tells}
use Rattle.dist_model.specs.declared.lists.Lists.{Lists}
use Rattle.unit_core.specs.declared.raw_unit_doc.RawUnitDoc.{RawUnitDoc}
use Rattle.object_store.specs.declared.posting.Posting.{Posting}
use Rattle.object_store.specs.Objects.{ObjectsOf}
use Rattle.object_store.specs.Posting.{applied, outcome_of}
use Rattle.status_log.specs.declared.status_at.StatusAt.{StatusAt}
use Rattle.status_log.specs.Statuses.{Adds, AddsAll, given_by, plain, statuses_of}
use Rattle.inbound_post.specs.declared.prepared.DocPosting.{DocPosting}
use Rattle.inbound_post.specs.declared.inbound_document.InboundDocument.{InboundDocument}
use Rattle.inbound_post.specs.declared.application_tables.ApplicationTables.{ApplicationTables}
use Rattle.inbound_post.specs.Reading.{posting}
use Rattle.inbound_post.specs.Application.{Application, Arrived, arrived, first_statuses, objects_with, passed, passed_at, status_of, statuses_at}
use Rattle.inbound_post.specs.Application.{with_statuses}
use Rattle.inbound_post.specs.Tables.{AreTablesOf, bare}

abbrev statuses_from : List Arrived → ℕ → List StatusAt
statuses_from documents place = option_map_or (λ document. document.statuses) (slice_get documents place) []

length_map : (documents : List Arrived) → length (map bare documents) ≡ length documents
length_map [] = refl
length_map (x ∷ xs) = ap suc (length_map xs)

bare_push : (documents : List Arrived) (d : Arrived) → map bare (documents ++ d ∷ []) ≡ map bare documents ++ bare d ∷ []
bare_push [] d = refl
bare_push (x ∷ xs) d = ap (λ v. bare x ∷ v) (bare_push xs d)

from_push : (documents : List Arrived) (d : Arrived) → statuses_from (documents ++ d ∷ []) (length documents) ≡ statuses_from documents (length documents)
    ++ d.statuses
from_push [] d = refl
from_push (x ∷ xs) d = from_push xs d

from_before : (documents : List Arrived) (d : Arrived) (place : ℕ) → place ≢ length documents →
    statuses_from (documents ++ d ∷ []) place ≡ statuses_from documents place
from_before [] d zero other = absurd (other refl)
from_before [] d (suc place) other = refl
from_before (x ∷ xs) d zero other = refl
from_before (x ∷ xs) d (suc place) other = from_before xs d place (λ same. other (ap suc same))

at_before : (documents : List Arrived) (d : Arrived) (doc : ℕ) → doc ≢ suc (length documents) →
    statuses_at (documents ++ d ∷ []) doc ≡ statuses_at documents doc
at_before documents d zero other = refl
at_before documents d (suc place) other = from_before documents d place (λ same. other (ap suc same))

-- the statuses of documents with one more
pub at_push : (documents : List Arrived) (d : Arrived) (doc : ℕ)
    → statuses_at (documents ++ d ∷ []) doc ≡ (if doc == suc (length documents) then statuses_at documents doc ++ d.statuses else statuses_at documents doc)
at_push documents d doc =
    elim (eqb_tells doc (suc (length documents))) [
      | inl same ↦ rw (same.0, same.1) (from_push documents d)
      | inr other ↦ rw other.0 (at_before documents d doc other.1)
    ]

bare_set : (documents : List Arrived) (place : ℕ) (d : Arrived) (more : List StatusAt) → slice_get documents place ≡ Some d
    → map bare (slice_set documents place (with_statuses more d)) ≡ map bare documents
bare_set [] place d more known = refl
bare_set (x ∷ xs) zero d more known = let same : d ≡ x = cc known in ap (λ (e : Arrived). bare e ∷ map bare xs) same
bare_set (x ∷ xs) (suc place) d more known = ap (λ v. bare x ∷ v) (bare_set xs place d more known)

from_set : (documents : List Arrived) (place : ℕ) (d : Arrived) (more : List StatusAt) → slice_get documents place ≡ Some d
    → statuses_from (slice_set documents place (with_statuses more d)) place ≡ statuses_from documents place ++ more
from_set [] place d more known = absurd (cc)
from_set (x ∷ xs) zero d more known = let same : d ≡ x = cc known in ap (λ (e : Arrived). e.statuses ++ more) same
from_set (x ∷ xs) (suc place) d more known = from_set xs place d more known

from_beside : (documents : List Arrived) (place : ℕ) (new : Arrived) (k : ℕ) → k ≢ place → statuses_from (slice_set documents place new) k
    ≡ statuses_from documents k
from_beside [] place new k other = refl
from_beside (x ∷ xs) zero new zero other = absurd (other refl)
from_beside (x ∷ xs) zero new (suc k) other = refl
from_beside (x ∷ xs) (suc place) new zero other = refl
from_beside (x ∷ xs) (suc place) new (suc k) other = from_beside xs place new k (λ same. other (ap suc same))

at_beside : (documents : List Arrived) (place : ℕ) (new : Arrived) (doc : ℕ) → doc ≢ suc place → statuses_at (slice_set documents place new) doc
    ≡ statuses_at documents doc
at_beside documents place new zero other = refl
at_beside documents place new (suc k) other = from_beside documents place new k (λ same. other (ap suc same))

-- the statuses of documents of which one got more
pub at_set : (documents : List Arrived) (place : ℕ) (d : Arrived) (more : List StatusAt) (doc : ℕ) → slice_get documents place ≡ Some d
    → statuses_at (slice_set documents place (with_statuses more d)) doc
    ≡ (if doc == suc place then statuses_at documents doc ++ more else statuses_at documents doc)
at_set documents place d more doc known =
    elim (eqb_tells doc (suc place)) [
      | inl same ↦ rw (same.0, same.1) (from_set documents place d more known)
      | inr other ↦ rw other.0 (at_beside documents place (with_statuses more d) doc other.1)
    ]

-- one status is a list of one
pub one_status : (doc : ℕ) (status : StatusAt) (before after : List (List StatusAt)) → Adds doc status before after → AddsAll doc (status ∷ []) before after
one_status doc status before after adds = record { added = adds.added }

-- statuses that are added to the same document in two tables that agree
both_added : (doc : ℕ) (more : List StatusAt) (before after : List (List StatusAt)) (told : ℕ → List StatusAt)
    → ((other : ℕ) → statuses_of other before ≡ told other) → AddsAll doc more before after → (other : ℕ)
    → statuses_of other after ≡ (if other == doc then told other ++ more else told other)
both_added doc more before after told same adds other = adds.added other ∙ ap (λ (had : List StatusAt). if other == doc then had ++ more else had) (same other)

-- a document came in: the tables after it
pub arrived-tables : (sender : ℕ) (doc : RawUnitDoc) (becomes : DocPosting) (application : Application) (tables : ApplicationTables) (number : ℕ)
    (statuses : List (List StatusAt)) (objects : ObjectsOf) → AreTablesOf application tables → number ≡ suc (length tables.documents)
    → AddsAll number (given_by tables.records (first_statuses tables.objects becomes)) tables.statuses statuses → objects ≡ objects_with becomes tables.objects
    → AreTablesOf (arrived sender doc becomes application)
    (record {
      documents = tables.documents ++ record { sender = sender; document = doc }
          ∷ [];
      statuses = statuses;
      objects = objects;
      pointers = tables.pointers;
      records = tables.records;
    })
arrived-tables sender doc becomes application tables number statuses objects are next adds of_objects =
    let new : Arrived = record { sender = sender; document = doc; statuses = given_by application.records (first_statuses application.objects becomes) } in
    let count : length tables.documents ≡ length application.documents = ap length are.documents ∙ length_map application.documents in
    let its : number ≡ suc (length application.documents) = next ∙ ap suc count in
    record {
      documents = ap (λ v. v ++ bare new ∷ []) are.documents ∙ sym (bare_push application.documents new);
      statuses = λ other. both_added number (given_by tables.records (first_statuses tables.objects becomes)) tables.statuses statuses
          (statuses_at application.documents) are.statuses adds other
          ∙ ap (λ (o : ObjectsOf). if other == number then statuses_at application.documents other
          ++ given_by tables.records (first_statuses o becomes) else statuses_at application.documents other) are.objects
          ∙ ap (λ (by : ℕ). if other == number then statuses_at application.documents other
          ++ given_by by (first_statuses application.objects becomes) else statuses_at application.documents other) are.records
          ∙ ap (λ (n : ℕ). if other == n then statuses_at application.documents other ++ new.statuses else statuses_at application.documents other) its
          ∙ sym (at_push application.documents new other);
      objects = of_objects ∙ ap (objects_with becomes) are.objects;
      pointers = are.pointers;
      records = are.records;
    }

-- the document of a place in the tables is that of the application
pub document-there : (application : Application) (tables : ApplicationTables) (place : ℕ) (document : InboundDocument) → AreTablesOf application tables
    → slice_get tables.documents place ≡ Some document → (d : Arrived) × (slice_get application.documents place ≡ Some d) × (bare d ≡ document)
document-there application tables place document are known =
    found (slice_get application.documents place) refl
    (sym (slice_get-map bare application.documents place) ∙ ap (λ (xs : List InboundDocument). slice_get xs place) (sym are.documents) ∙ known)
  where
    found : (o : Option Arrived) → slice_get application.documents place ≡ o → option_map bare (slice_get application.documents place) ≡ Some document
        → (d : Arrived) × (slice_get application.documents place ≡ Some d) × (bare d ≡ document)
    found None is maps = absurd (cc)
    found (Some d) is maps = (d, is, cc (maps, ap (option_map bare) is))

-- a document got statuses, and the objects are others: the tables after it
with_more : (application : Application) (tables : ApplicationTables) (place : ℕ) (d : Arrived) (more : List StatusAt) (statuses : List (List StatusAt))
    (objects : ObjectsOf)
    → AreTablesOf application tables → slice_get application.documents place ≡ Some d → AddsAll (suc place) more tables.statuses statuses
    → AreTablesOf (record application { documents = slice_set application.documents place (with_statuses more d); objects = objects })
    (record tables { statuses = statuses; objects = objects })
with_more application tables place d more statuses objects are known adds = record {
  documents = are.documents ∙ sym (bare_set application.documents place d more known);
  statuses = λ other. both_added (suc place) more tables.statuses statuses (statuses_at application.documents) are.statuses adds other
      ∙ sym (at_set application.documents place d more other known);
  objects = refl;
  pointers = are.pointers;
  records = are.records;
}

-- a document is passed to the application again: the tables after it
pub passed-tables : (model : Lists) (application : Application) (tables : ApplicationTables) (place : ℕ) (document : InboundDocument) (made : Posting)
    (statuses : List (List StatusAt)) (objects : ObjectsOf) → AreTablesOf application tables → slice_get tables.documents place ≡ Some document
    → posting model document.document ≡ Some made
    → AddsAll (suc place) (given_by tables.records (plain 62 ∷ status_of (outcome_of made tables.objects) ∷ [])) tables.statuses statuses
    → objects ≡ applied made tables.objects
    → AreTablesOf (passed_at model place application (slice_get application.documents place)) (record tables { statuses = statuses; objects = objects })
passed-tables model application tables place document made statuses objects are known is adds of_objects =
    let (d, at, same) = document-there application tables place document are known in
    let more : List StatusAt = given_by application.records (plain 62 ∷ status_of (outcome_of made application.objects) ∷ []) in
    let adds2 : AddsAll (suc place) more tables.statuses statuses =
    subst (λ (by : ℕ). AddsAll (suc place) (given_by by (plain 62 ∷ status_of (outcome_of made application.objects) ∷ [])) tables.statuses statuses) are.records
    (subst (λ (o : ObjectsOf). AddsAll (suc place) (given_by tables.records (plain 62 ∷ status_of (outcome_of made o) ∷ [])) tables.statuses statuses)
    are.objects adds) in
    let of_it : posting model d.document ≡ Some made = ap (λ (e : InboundDocument). posting model e.document) same ∙ is in
    subst (λ (a : Application). AreTablesOf a (record tables { statuses = statuses; objects = objects }))
    (sym (ap (passed_at model place application) at ∙ ap (passed place d application) of_it
    ∙ ap (λ (o : ObjectsOf). let a : Application = record application
    { documents = slice_set application.documents place (with_statuses more d); objects = o } in a)
    (ap (applied made) (sym are.objects) ∙ sym of_objects)))
    (with_more application tables place d more statuses objects are at adds2)

-- a document is not read any more: the tables after it
pub unread-tables : (model : Lists) (application : Application) (tables : ApplicationTables) (place : ℕ) (document : InboundDocument)
    (statuses : List (List StatusAt)) → AreTablesOf application tables → slice_get tables.documents place ≡ Some document
    → posting model document.document ≡ None → AddsAll (suc place) (given_by tables.records (plain 56 ∷ [])) tables.statuses statuses
    → AreTablesOf (passed_at model place application (slice_get application.documents place)) (record tables { statuses = statuses })
unread-tables model application tables place document statuses are known is adds =
    let (d, at, same) = document-there application tables place document are known in
    let of_it : posting model d.document ≡ None = ap (λ (e : InboundDocument). posting model e.document) same ∙ is in
    let more : List StatusAt = given_by application.records (plain 56 ∷ []) in
    let adds2 : AddsAll (suc place) more tables.statuses statuses =
    subst (λ (by : ℕ). AddsAll (suc place) (given_by by (plain 56 ∷ [])) tables.statuses statuses) are.records adds in
    subst (λ (a : Application). AreTablesOf a (record tables { statuses = statuses }))
    (sym (ap (passed_at model place application) at ∙ ap (passed place d application) of_it))
    (let set : AreTablesOf (record application
    { documents = slice_set application.documents place (with_statuses more d); objects = tables.objects })
    (record tables { statuses = statuses }) = with_more application tables place d more statuses tables.objects are at adds2 in
    record { documents = set.documents; statuses = set.statuses; objects = are.objects; pointers = set.pointers; records = set.records })
