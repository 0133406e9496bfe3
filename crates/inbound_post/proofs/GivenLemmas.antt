-- Which records of their log gave the statuses of inbound documents.
use Rattle.std.specs.Prelude.{◌==◌, Contains, fold, slice_get, slice_set, if◌then◌else◌}
use Rattle.std.specs.List.{AllByRecursion}
use Rattle.std.specs.Option.{option_map_or}
use Rattle.std.proofs.Common.{◌≡◌, ℕ, zero, suc, Option, Some, None, List, [], ◌∷◌, ◌++◌, length, take, refl, ap, sym, subst, ◌∙◌}
use Rattle.std.proofs.Common.{arith, Bool, true, false}
use Rattle.std.proofs.lemmas.List.{length_push}
use Rattle.ale_base.proofs.ListLemmas.{AllByRecursion-weaker}
use Rattle.ale_base.proofs.MemberLemmas.{Contains-here, Contains-there}
use Rattle.dist_model.specs.declared.lists.Lists.{Lists}
use Rattle.unit_core.specs.declared.ale_unit.AleUnit.{AleUnit}
use Rattle.unit_core.specs.declared.raw_unit_doc.RawUnitDoc.{RawUnitDoc}
use Rattle.unit_core.specs.declared.records.Record.{Record}
use Rattle.unit_core.specs.declared.records.Record.TheVariants as log
use Rattle.unit_core.specs.Queues.{unit_named}
use Rattle.log_models.specs.InForce.{in_force}
use Rattle.object_store.specs.declared.posting.Outcome.{Outcome}
use Rattle.object_store.specs.declared.posting.Outcome.TheVariants as outcome
use Rattle.object_store.specs.declared.posting.Posting.{Posting}
use Rattle.object_store.specs.Objects.{ObjectsOf}
use Rattle.object_store.specs.Posting.{outcome_of}
use Rattle.status_log.specs.declared.status.Status.{Status}
use Rattle.status_log.specs.declared.status_at.StatusAt.{StatusAt}
use Rattle.status_log.specs.Statuses.{given_by, plain}
use Rattle.status_log.specs.Given.{AreGivenIn, up_to}
use Rattle.status_log.proofs.GivenLemmas.{Gives, Gives-both, Gives-none, from_front, given-log, stood-log}
use Rattle.inbound_post.specs.declared.prepared.DocPosting.{DocPosting}
use Rattle.inbound_post.specs.declared.prepared.DocPosting.TheVariants as becomes
use Rattle.inbound_post.specs.Application.{Application, Arrived, Past, application_after, codes_of, counted, executed_if, first_statuses, next_application}
use Rattle.inbound_post.specs.Application.{no_past, passed, passed_again, passed_at, past_of, status_of, statuses_at, with_document, with_statuses}
use Rattle.inbound_post.specs.Application.{with_unit}
use Rattle.inbound_post.specs.Prepared.{posting_from}
use Rattle.inbound_post.specs.Reading.{posting}
use Rattle.inbound_post.proofs.ApplicationLemmas.{past_of-push}
use Rattle.inbound_post.proofs.TablesLemmas.{at_push, at_set}

-- the code of a status is among these
abbrev May : List ℕ → Status → Type 0
May codes status = Contains codes status.code

-- the codes that a document may get as it comes in
abbrev coming : List ℕ
coming = 50 ∷ 64 ∷ 62 ∷ 53 ∷ 51 ∷ 56 ∷ []

-- and those as it is passed to the application again
abbrev again : List ℕ
again = 62 ∷ 53 ∷ 51 ∷ 56 ∷ []

came : (given : Outcome) → May (53 ∷ 51 ∷ 56 ∷ []) (status_of given)
came outcome.Posted = Contains-here 53 (51 ∷ 56 ∷ [])
came (outcome.Refused reason) = Contains-there 53 (51 ∷ 56 ∷ []) 51 (Contains-here 51 (56 ∷ []))

-- what a document gets as it is passed to the application
again_may : (given : Outcome) → AllByRecursion (May again) (plain 62 ∷ status_of given ∷ [])
again_may given = (
  Contains-here 62 (53 ∷ 51 ∷ 56 ∷ []),
  (Contains-there 62 (53 ∷ 51 ∷ 56 ∷ []) (status_of given).code (came given), tt),
)

unread_may : AllByRecursion (May again) (plain 56 ∷ [])
unread_may = (
  Contains-there 62 (53 ∷ 51 ∷ 56 ∷ []) 56 (Contains-there 53 (51 ∷ 56 ∷ []) 56 (Contains-there 51 (56 ∷ []) 56 (Contains-here 56 []))),
  tt,
)

-- what a document gets as it comes in
first_may : (objects : ObjectsOf) (made : DocPosting) → AllByRecursion (May coming) (first_statuses objects made)
first_may objects (becomes.Post posting) = (
  Contains-here 50 (64 ∷ 62 ∷ 53 ∷ 51 ∷ 56 ∷ []),
  (
    Contains-there 50 (64 ∷ 62 ∷ 53 ∷ 51 ∷ 56 ∷ []) 64 (Contains-here 64 (62 ∷ 53 ∷ 51 ∷ 56 ∷ [])),
    AllByRecursion-weaker (May again) (May coming)
        (plain 62 ∷ status_of (outcome_of posting objects) ∷ [])
        (λ status has. Contains-there 50 (64 ∷ 62 ∷ 53 ∷ 51 ∷ 56 ∷ []) status.code
        (Contains-there 64 (62 ∷ 53 ∷ 51 ∷ 56 ∷ []) status.code has))
        (again_may (outcome_of posting objects)),
  ),
)
first_may objects becomes.Waits = (
  Contains-here 50 (64 ∷ 62 ∷ 53 ∷ 51 ∷ 56 ∷ []),
  (Contains-there 50 (64 ∷ 62 ∷ 53 ∷ 51 ∷ 56 ∷ []) 64 (Contains-here 64 (62 ∷ 53 ∷ 51 ∷ 56 ∷ [])), tt),
)
first_may objects becomes.Errors = (
  Contains-here 50 (64 ∷ 62 ∷ 53 ∷ 51 ∷ 56 ∷ []),
  AllByRecursion-weaker (May again) (May coming) (plain 56 ∷ [])
      (λ status has. Contains-there 50 (64 ∷ 62 ∷ 53 ∷ 51 ∷ 56 ∷ []) status.code (Contains-there 64 (62 ∷ 53 ∷ 51 ∷ 56 ∷ []) status.code has))
      unread_may,
)

-- a record gives the document that it names what it may, and no other one anything
if_named : (b : Bool) (number : ℕ) (before : List StatusAt) (more : List Status) → AllByRecursion (May again) more
    → Gives (if b then again else []) number before (if b then before ++ given_by number more else before)
if_named true number before more may = record { more = more; behind = refl; may = may }
if_named false number before more may = Gives-none [] number before

-- a document that comes in gets what it may, and no other one gets anything
if_comes : (b : Bool) (number : ℕ) (before : List StatusAt) (more : List Status) → AllByRecursion (May coming) more
    → Gives coming number before (if b then before ++ given_by number more else before)
if_comes true number before more may = record { more = more; behind = refl; may = may }
if_comes false number before more may = Gives-none coming number before

-- ---- what one record gives to the document of a number, of an application that has counted it
module _ (doc : ℕ) where
  abbrev at : Application → List StatusAt
  at application = statuses_at application.documents doc

  come-gives : (model : Lists) (system sender : ℕ) (docs : List RawUnitDoc) (application : Application)
      → Gives coming application.records (at application) (at (fold (with_document model system sender) application docs))
  come-gives model system sender [] application = Gives-none coming application.records (at application)
  come-gives model system sender (one ∷ docs) application =
      let becomes = posting_from model system sender one in
      let more = first_statuses application.objects becomes in
      let new : Arrived = record { sender = sender; document = one; statuses = given_by application.records more } in
      let between = with_document model system sender application one in
      Gives-both coming application.records (at application) (at between) (at (fold (with_document model system sender) between docs))
      (subst (Gives coming application.records (at application)) (sym (at_push application.documents new doc))
      (if_comes (doc == suc (length application.documents)) application.records (at application) more (first_may application.objects becomes)))
      (come-gives model system sender docs between)

  made-gives : (place : ℕ) (document : Arrived) (application : Application) (made : Option Posting) → slice_get application.documents place ≡ Some document
      → Gives (if doc == suc place then again else []) application.records (at application) (at (passed place document application made))
  made-gives place document application made here = of_made made
    where
      gets : (more : List Status) → AllByRecursion (May again) more
          → Gives (if doc == suc place then again else []) application.records (at application)
          (statuses_at (slice_set application.documents place (with_statuses (given_by application.records more) document)) doc)
      gets more may =
          subst (Gives (if doc == suc place then again else []) application.records (at application))
          (sym (at_set application.documents place document (given_by application.records more) doc here))
          (if_named (doc == suc place) application.records (at application) more may)

      of_made : (made : Option Posting)
          → Gives (if doc == suc place then again else []) application.records (at application) (at (passed place document application made))
      of_made None = gets (plain 56 ∷ []) unread_may
      of_made (Some posting) =
          gets (plain 62 ∷ status_of (outcome_of posting application.objects) ∷ []) (again_may (outcome_of posting application.objects))

  found-gives : (model : Lists) (place : ℕ) (application : Application) (found : Option Arrived) → slice_get application.documents place ≡ found
      → Gives (if doc == suc place then again else []) application.records (at application) (at (passed_at model place application found))
  found-gives model place application None here = Gives-none (if doc == suc place then again else []) application.records (at application)
  found-gives model place application (Some document) here = made-gives place document application (posting model document.document) here

  again-gives : (model : Lists) (application : Application) (named : ℕ)
      → Gives (if doc == named then again else []) application.records (at application) (at (passed_again model application named))
  again-gives model application zero = Gives-none (if doc == zero then again else []) application.records (at application)
  again-gives model application (suc place) = found-gives model place application (slice_get application.documents place) refl

  unit-gives : (model : Lists) (system : ℕ) (application : Application) (found : Option AleUnit)
      → Gives coming application.records (at application) (at (executed_if model system application found))
  unit-gives model system application None = Gives-none coming application.records (at application)
  unit-gives model system application (Some unit) = come-gives model system unit.sender unit.docs application

  after-gives : (model : Lists) (system : ℕ) (application : Application) (next : Record)
      → Gives (codes_of doc next) application.records (at application) (at (application_after model system application next))
  after-gives model system application (log.Direct unit) = come-gives model system unit.sender unit.docs (with_unit unit application)
  after-gives model system application (log.Execute tid) = unit-gives model system application (unit_named tid application.received)
  after-gives model system application (log.App named) = again-gives model application named.0
  after-gives model system application (log.Repost named) = again-gives model application named.0
  after-gives model system application next = Gives-none (codes_of doc next) application.records (at application)

  under-gives : (found : Option Lists) (system : ℕ) (application : Application) (next : Record)
      → Gives (codes_of doc next) application.records (at application)
      (at (option_map_or (λ model. application_after model system application next) found application))
  under-gives None system application next = Gives-none (codes_of doc next) application.records (at application)
  under-gives (Some model) system application next = after-gives model system application next

  next-gives : (models : List Lists) (past : Past) (next : Record)
      → Gives (codes_of doc next) (suc past.application.records) (at past.application) (at (next_application models past next))
  next-gives models past (log.Model text) = Gives-none [] (suc past.application.records) (at past.application)
  next-gives models past next = under-gives (in_force models past.models) past.system (counted past.application) next

-- ---- how many records there are

come_same : (model : Lists) (system sender : ℕ) (docs : List RawUnitDoc) (application : Application)
    → (fold (with_document model system sender) application docs).records ≡ application.records
come_same model system sender [] application = refl
come_same model system sender (doc ∷ docs) application = come_same model system sender docs (with_document model system sender application doc)

made_same : (place : ℕ) (document : Arrived) (application : Application) (made : Option Posting) →
    (passed place document application made).records ≡ application.records
made_same place document application None = refl
made_same place document application (Some posting) = refl

found_same : (model : Lists) (place : ℕ) (application : Application) (found : Option Arrived) →
    (passed_at model place application found).records ≡ application.records
found_same model place application None = refl
found_same model place application (Some document) = made_same place document application (posting model document.document)

again_same : (model : Lists) (application : Application) (doc : ℕ) → (passed_again model application doc).records ≡ application.records
again_same model application zero = refl
again_same model application (suc place) = found_same model place application (slice_get application.documents place)

unit_same : (model : Lists) (system : ℕ) (application : Application) (found : Option AleUnit) →
    (executed_if model system application found).records ≡ application.records
unit_same model system application None = refl
unit_same model system application (Some unit) = come_same model system unit.sender unit.docs application

-- a record counts no others
after_same : (model : Lists) (system : ℕ) (application : Application) (next : Record) →
    (application_after model system application next).records ≡ application.records
after_same model system application (log.Direct unit) = come_same model system unit.sender unit.docs (with_unit unit application)
after_same model system application (log.Execute tid) = unit_same model system application (unit_named tid application.received)
after_same model system application (log.App doc) = again_same model application doc.0
after_same model system application (log.Repost doc) = again_same model application doc.0
after_same model system application _ = refl

under_same : (found : Option Lists) (system : ℕ) (application : Application) (next : Record)
    → (option_map_or (λ model. application_after model system application next) found application).records ≡ application.records
under_same None system application next = refl
under_same (Some model) system application next = after_same model system application next

next_same : (models : List Lists) (past : Past) (next : Record) → (next_application models past next).records ≡ suc past.application.records
next_same models past (log.Model text) = refl
next_same models past next = under_same (in_force models past.models) past.system (counted past.application) next

-- ---- the whole log

applied-begun : (models : List Lists) → past_of models [] ≡ no_past
unfolding past_of
applied-begun models = refl

-- as many records are counted as the log has
pub applied-records : (models : List Lists) (records : List Record) → (past_of models records).application.records ≡ length records
applied-records models records = from_front (λ (so_far : List Record). (past_of models so_far).application.records ≡ length so_far) step [] records
    (ap (λ (past : Past). past.application.records) (applied-begun models))
  where
    step : (so_far : List Record) (next : Record) → (past_of models so_far).application.records ≡ length so_far
        → (past_of models (so_far ++ next ∷ [])).application.records ≡ length (so_far ++ next ∷ [])
    step so_far next count =
        let counted : (past_of models (so_far ++ next ∷ [])).application.records ≡ suc (past_of models so_far).application.records =
        ap (λ (past : Past). past.application.records) (past_of-push models so_far next) ∙ next_same models (past_of models so_far) next in
        omega (arith, counted, count, length_push so_far next)

-- a document has no statuses before the first record
applied-nothing : (models : List Lists) (doc : ℕ) → statuses_at (past_of models []).application.documents doc ≡ []
applied-nothing models doc = ap (λ (past : Past). statuses_at past.application.documents doc) (applied-begun models) ∙ none_at doc
  where
    none_at : (doc : ℕ) → statuses_at [] doc ≡ []
    none_at zero = refl
    none_at (suc place) = refl

-- and each record gives it what it may, by its number
applied-gives : (models : List Lists) (doc : ℕ) (records : List Record) (next : Record)
    → Gives (codes_of doc next) (suc (length records)) (statuses_at (past_of models records).application.documents doc)
    (statuses_at (past_of models (records ++ next ∷ [])).application.documents doc)
applied-gives models doc records next =
    let past = past_of models records in
    let had = statuses_at past.application.documents doc in
    subst (λ (after : Past). Gives (codes_of doc next) (suc (length records)) had (statuses_at after.application.documents doc))
    (sym (past_of-push models records next))
    (subst (λ (count : ℕ). Gives (codes_of doc next) (suc count) had (statuses_at (next_application models past next).documents doc))
    (applied-records models records) (next-gives doc models past next))

-- the statuses of a document are in the order of the records of the log, and each is of a record that may give it
pub applied-given : (models : List Lists) (records : List Record) (doc : ℕ) →
    AreGivenIn (codes_of doc) records (statuses_at (past_of models records).application.documents doc)
applied-given models records doc =
    given-log (codes_of doc) (λ (so_far : List Record). statuses_at (past_of models so_far).application.documents doc) (applied-nothing models doc)
    (applied-gives models doc) records

-- what the first records gave is what was there after them
pub applied-stood : (models : List Lists) (records : List Record) (doc count : ℕ)
    → up_to count (statuses_at (past_of models records).application.documents doc)
    ≡ statuses_at (past_of models (take count records)).application.documents doc
applied-stood models records doc count =
    stood-log (codes_of doc) (λ (so_far : List Record). statuses_at (past_of models so_far).application.documents doc) (applied-nothing models doc)
    (applied-gives models doc) records count
