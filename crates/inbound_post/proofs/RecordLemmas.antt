-- One more record of a log, and the tables of its application: which units were received, and what a unit that is executed does.
use Rattle.std.specs.Prelude.{slice_get, fold}
use Rattle.std.specs.List.{cons_option, filter_map}
use Rattle.std.specs.Option.{option_map_or}
use Rattle.std.proofs.Common.{◌≡◌, ℕ, zero, suc, ◌≤◌, ◌<◌, Option, Some, None, List, [], ◌∷◌, ◌++◌, length, refl, ap, sym, subst, ◌∙◌, arith}
use Rattle.std.proofs.lemmas.List.{append-nil, append_assoc}
use Rattle.ale_base.specs.Tid.{TidOf}
use Rattle.dist_model.specs.declared.lists.Lists.{Lists}
use Rattle.unit_core.specs.declared.ale_unit.AleUnit.{AleUnit}
use Rattle.unit_core.specs.declared.raw_unit_doc.RawUnitDoc.{RawUnitDoc}
use Rattle.unit_core.specs.declared.records.Record.{Record}
use Rattle.unit_core.specs.declared.records.Record.TheVariants as log
use Rattle.unit_core.specs.Filters.{received, taken_by}
use Rattle.unit_core.specs.Queues.{unit_named}
use Rattle.log_models.specs.InForce.{in_force, models_after, models_in}
use Rattle.object_store.specs.declared.posting.Posting.{Posting}
use Rattle.inbound_post.specs.declared.application_tables.ApplicationTables.{ApplicationTables}
use Rattle.inbound_post.specs.Reading.{posting}
use Rattle.inbound_post.specs.Prepared.{prepared}
use Rattle.inbound_post.specs.Application.{Application, Arrived, Past, application_after, arrived_all, counted, executed_if, next_application, no_past, passed}
use Rattle.inbound_post.specs.Application.{passed_at, passed_again, past_after, past_of, with_document, with_unit}
use Rattle.inbound_post.specs.Tables.{AreTablesOf}
use Rattle.inbound_post.proofs.ApplicationLemmas.{executed-prepared}

-- ---- the tables

-- a unit that is received leaves the tables
pub AreTablesOf-Accept : (unit : AleUnit) (application : Application) (tables : ApplicationTables) → AreTablesOf application tables →
    AreTablesOf (with_unit unit application) tables
AreTablesOf-Accept unit application tables are = record {
  documents = are.documents;
  statuses = are.statuses;
  objects = are.objects;
  pointers = are.pointers;
  records = are.records;
}

-- what `execute` makes of the tables
abbrev pub Executes : Lists → ℕ → AleUnit → ApplicationTables → ApplicationTables → Type 0
Executes model system unit before after =
    (application : Application) → AreTablesOf application before
    → AreTablesOf (arrived_all unit.sender unit.docs (prepared model system unit).postings application) after

-- a Direct: a unit is received, and its documents come in as they were prepared
pub AreTablesOf-Direct : (model : Lists) (system : ℕ) (unit : AleUnit) (application : Application) (before after : ApplicationTables)
    → AreTablesOf application before → Executes model system unit before after →
    AreTablesOf (application_after model system application (log.Direct unit)) after
AreTablesOf-Direct model system unit application before after are executes =
    subst (λ (a : Application). AreTablesOf a after) (sym (executed-prepared model system unit (with_unit unit application)))
    (executes (with_unit unit application) (AreTablesOf-Accept unit application before are))

-- an Execute: the documents of a unit that was received come in as they were prepared
pub AreTablesOf-Execute : (model : Lists) (system : ℕ) (tid : TidOf) (unit : AleUnit) (application : Application) (before after : ApplicationTables)
    → unit_named tid application.received ≡ Some unit
    → AreTablesOf application before → Executes model system unit before after →
    AreTablesOf (application_after model system application (log.Execute tid)) after
AreTablesOf-Execute model system tid unit application before after named are executes =
    subst (λ (a : Application). AreTablesOf a after) (sym (ap (executed_if model system application) named ∙ executed-prepared model system unit application))
    (executes application are)

-- ---- the units that were received

taken : Record → List AleUnit
taken next = filter_map taken_by (next ∷ [])

executed_same : (model : Lists) (system sender : ℕ) (docs : List RawUnitDoc) (application : Application)
    → (fold (with_document model system sender) application docs).received ≡ application.received
executed_same model system sender [] application = refl
executed_same model system sender (doc ∷ docs) application = executed_same model system sender docs (with_document model system sender application doc)

passed_same : (model : Lists) (place : ℕ) (application : Application) (found : Option Arrived) → (passed_at model place application found).received
    ≡ application.received
passed_same model place application None = refl
passed_same model place application (Some document) = of_posting (posting model document.document)
  where
    of_posting : (made : Option Posting) → (passed place document application made).received ≡ application.received
    of_posting None = refl
    of_posting (Some made) = refl

again_same : (model : Lists) (application : Application) (doc : ℕ) → (passed_again model application doc).received ≡ application.received
again_same model application zero = refl
again_same model application (suc place) = passed_same model place application (slice_get application.documents place)

if_same : (model : Lists) (system : ℕ) (application : Application) (found : Option AleUnit) → (executed_if model system application found).received
    ≡ application.received
if_same model system application None = refl
if_same model system application (Some unit) = executed_same model system unit.sender unit.docs application

-- a record takes in the unit that it says
after_received : (model : Lists) (system : ℕ) (application : Application) (next : Record) → (application_after model system application next).received
    ≡ application.received ++ taken next
unfolding taken
after_received model system application (log.Accept unit) = refl
after_received model system application (log.Direct unit) = executed_same model system unit.sender unit.docs (with_unit unit application)
after_received model system application (log.Execute tid) = if_same model system application (unit_named tid application.received)
    ∙ sym (append-nil application.received)
after_received model system application (log.App doc) = again_same model application doc.0 ∙ sym (append-nil application.received)
after_received model system application (log.Repost doc) = again_same model application doc.0 ∙ sym (append-nil application.received)
after_received model system application _ = sym (append-nil application.received)

more_models : (models : ℕ) (next : Record) → models ≤ models_after models next
more_models models (log.Genesis system text) = omega arith
more_models models (log.Model text) = omega arith
more_models models _ = omega arith

all_models : (models : ℕ) (records : List Record) → models ≤ fold models_after models records
all_models models [] = omega arith
all_models models (next ∷ records) = omega (arith, more_models models next, all_models (models_after models next) records)

there : {A : Type 0} (xs : List A) (k : ℕ) → k < length xs → (x : A) × (slice_get xs k ≡ Some x)
there [] k within = absurd (omega (arith, within))
there (x ∷ xs) zero within = (x, refl)
there (x ∷ xs) (suc k) within = there xs k (omega (arith, within))

forced : (models : List Lists) (count : ℕ) → 1 ≤ count → count ≤ length models → (model : Lists) × (in_force models count ≡ Some model)
forced models zero least most = absurd (omega (arith, least))
forced models (suc last) least most = there models last (omega (arith, most))

under : (models : List Lists) (past : Past) (next : Record) → 1 ≤ past.models → past.models ≤ length models
    → (option_map_or (λ model. application_after model past.system (counted past.application) next) (in_force models past.models)
    (counted past.application)).received
    ≡ past.application.received ++ taken next
under models past next least most =
    let (model, is) = forced models past.models least most in
    ap (λ (found : Option Lists). (option_map_or (λ model. application_after model past.system (counted past.application) next) found
    (counted past.application)).received) is
    ∙ after_received model past.system (counted past.application) next

one_received : (models : List Lists) (past : Past) (next : Record) → 1 ≤ past.models → past.models ≤ length models
    → (next_application models past next).received ≡ past.application.received ++ taken next
unfolding taken
one_received models past (log.Model text) least most = sym (append-nil past.application.received)
one_received models past next least most = under models past next least most

taken_first : (next : Record) (records : List Record) → taken next ++ received records ≡ received (next ∷ records)
unfolding taken
taken_first next records = of_unit (taken_by next)
  where
    of_unit : (found : Option AleUnit) → cons_option found [] ++ received records ≡ cons_option found (received records)
    of_unit None = refl
    of_unit (Some unit) = refl

from_past : (models : List Lists) (records : List Record) (past : Past) → 1 ≤ past.models → fold models_after past.models records ≤ length models
    → (fold (past_after models) past records).application.received ≡ past.application.received ++ received records
from_past models [] past least most = sym (append-nil past.application.received)
from_past models (next ∷ records) past least most =
    let more = more_models past.models next in
    let all = all_models (models_after past.models next) records in
    from_past models records (past_after models past next) (omega (arith, least, more)) most
    ∙ ap (λ (units : List AleUnit). units ++ received records) (one_received models past next least (omega (arith, more, all, most)))
    ∙ append_assoc past.application.received (taken next) (received records)
    ∙ ap (λ (units : List AleUnit). past.application.received ++ units) (taken_first next records)

-- the units that a log received are those that its records took in, where the models of all its records are there
pub received-log : (models : List Lists) (system : ℕ) (text : List ℕ) (records : List Record) → models_in (log.Genesis system text ∷ records) ≤ length models
    → (past_of models (log.Genesis system text ∷ records)).application.received ≡ received (log.Genesis system text ∷ records)
unfolding past_of
received-log models system text records most = from_past models records (past_after models no_past (log.Genesis system text)) (omega arith) most
