-- What a log stands for, from record to record.
use Rattle.std.specs.Prelude.{fold, map}
use Rattle.std.specs.Option.{option_map_or}
use Rattle.std.proofs.Common.{◌≡◌, ℕ, ◌≤◌, Option, Some, None, List, [], ◌∷◌, ◌++◌, length, false, refl, ap, sym, ◌∙◌, arith, length-append}
use Rattle.std.proofs.lemmas.List.{append-nil, map-append}
use Rattle.std.proofs.lemmas.List.Sums.{fold_push}
use Rattle.ale_base.specs.Prefix.{IsPrefix}
use Rattle.dist_model.specs.declared.lists.Lists.{Lists}
use Rattle.unit_core.specs.declared.records.Record.{Record}
use Rattle.unit_core.specs.declared.records.Record.TheVariants.{Commit, Dispatch}
use Rattle.log_models.specs.InForce.{in_force, models_after, models_in}
use Rattle.log_models.proofs.InForceLemmas.{in_force-before, models-grow}
use Rattle.outbound_build.specs.declared.added.Added.{Added}
use Rattle.outbound_build.specs.declared.added.OutUnit.{OutUnit}
use Rattle.outbound_build.specs.declared.outbox.Outbox.{Outbox}
use Rattle.outbound_build.specs.Added.{added_by, adds_any}
use Rattle.outbound_build.specs.Committed.{Past, adds, committed_of, documents_of, no_more, no_past, past_after, past_of, past_with, units_of}

-- no record, and one more record
pub past_of-nothing : (models : List Lists) → past_of models [] ≡ no_past
unfolding past_of
past_of-nothing models = refl

pub past_of-push : (models : List Lists) (log : List Record) (next : Record) → past_of models (log ++ next ∷ []) ≡ past_after models (past_of models log) next
unfolding past_of
past_of-push models log next = fold_push (past_after models) no_past log next

-- what each record keeps is true behind every log
pub past-keeps : (models : List Lists) (P : Past → Type 0) → P no_past → ((past : Past) (next : Record) → P past → P (past_after models past next))
    → (log : List Record) → P (past_of models log)
unfolding past_of
past-keeps models P start step log = all log no_past start
  where
    all : (log : List Record) (past : Past) → P past → P (fold (past_after models) past log)
    all [] past is = is
    all (next ∷ rest) past is = all rest (past_after models past next) (step past next is)

-- the outbox counts the documents and the units
pub record IsCounted (past : Past) : Type 0 where
  pub documents : past.outbox.documents ≡ length past.documents
  pub units : past.outbox.units ≡ length past.units

pub counted-after : (models : List Lists) (past : Past) (next : Record) → IsCounted past → IsCounted (past_after models past next)
counted-after models past next is = let more = adds models past next in record {
  documents = omega (arith, is.documents, length-append past.documents more.documents);
  units = omega (arith, is.units, length-append past.units more.units);
}

pub counted : (models : List Lists) (log : List Record) → IsCounted (past_of models log)
counted models log = past-keeps models IsCounted (record { documents = refl; units = refl }) (counted-after models) log

-- a record that is no Commit and no Dispatch adds nothing
pub added-nothing : (model : Lists) (system : ℕ) (outbox : Outbox) (next : Record) → adds_any next ≡ false → added_by model system outbox next ≡ no_more
added-nothing model system outbox (Commit origin docs) is = absurd (cc)
added-nothing model system outbox Dispatch is = absurd (cc)
added-nothing model system outbox _ is = refl

adds-nothing : (models : List Lists) (past : Past) (next : Record) → adds_any next ≡ false → adds models past next ≡ no_more
adds-nothing models past next is = under (in_force models past.models)
  where
    under : (o : Option Lists) → option_map_or (λ model. added_by model past.system past.outbox next) o no_more ≡ no_more
    under None = refl
    under (Some model) = added-nothing model past.system past.outbox next is

-- one more record adds to both lists, and changes nothing in them
pub grown : (models : List Lists) (log : List Record) (next : Record)
    → (documents_of models (log ++ next ∷ []) ≡ documents_of models log ++ (adds models (past_of models log) next).documents)
    × (units_of models (log ++ next ∷ []) ≡ units_of models log ++ (adds models (past_of models log) next).units)
grown models log next = (ap (λ (past : Past). past.documents) (past_of-push models log next), ap (λ (past : Past). past.units) (past_of-push models log next))

-- a record that is no Commit and no Dispatch leaves both lists
pub documents-stay : (models : List Lists) (log : List Record) (next : Record) → adds_any next ≡ false
    → documents_of models (log ++ next ∷ []) ≡ documents_of models log
documents-stay models log next is =
    (grown models log next).0 ∙ ap (λ (more : Added). documents_of models log ++ more.documents) (adds-nothing models (past_of models log) next is)
    ∙ append-nil (documents_of models log)

pub units-stay : (models : List Lists) (log : List Record) (next : Record) → adds_any next ≡ false → units_of models (log ++ next ∷ []) ≡ units_of models log
units-stay models log next is =
    (grown models log next).1 ∙ ap (λ (more : Added). units_of models log ++ more.units) (adds-nothing models (past_of models log) next is)
    ∙ append-nil (units_of models log)

-- every record leaves the units before it
pub committed-grows : (models : List Lists) (log : List Record) (next : Record) → IsPrefix (committed_of models log) (committed_of models (log ++ next ∷ []))
committed-grows models log next =
    let unit = λ (one : OutUnit). one.unit in
    let more = (adds models (past_of models log) next).units in
    (map unit more, sym (ap (map unit) (grown models log next).1 ∙ map-append unit (units_of models log) more))

past-before : (models more : List Lists) (log : List Record) (past : Past) → fold models_after past.models log ≤ length models
    → fold (past_after (models ++ more)) past log ≡ fold (past_after models) past log
past-before models more [] past within = refl
past-before models more (next ∷ rest) past within =
    let force = in_force-before models more past.models (omega (arith, models-grow past.models (next ∷ rest), within)) in
    let same : past_after (models ++ more) past next ≡ past_after models past next
    = ap (λ (o : Option Lists). past_with past next (option_map_or (λ model. added_by model past.system past.outbox next) o no_more)) force in
    ap (λ (p : Past). fold (past_after (models ++ more)) p rest) same ∙ past-before models more rest (past_after models past next) within

-- models of later records make no difference
pub past_of-before : (models more : List Lists) (log : List Record) → models_in log ≤ length models → past_of (models ++ more) log ≡ past_of models log
unfolding past_of
past_of-before models more log within = past-before models more log no_past within
