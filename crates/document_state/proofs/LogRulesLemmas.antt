-- The rules at the tables of a log: what a record brings that may follow.
use Rattle.std.proofs.Common.{◌≡◌, ◌≢◌, ◌≤◌, ℕ, Some, List, [], ◌∷◌, ◌++◌, length, refl, sym, ap, ◌∙◌, arith}
use Rattle.std.proofs.lemmas.Option.{none-some}
use Rattle.ale_base.specs.Tid.{TidOf}
use Rattle.dist_model.specs.declared.lists.Lists.{Lists}
use Rattle.unit_core.specs.declared.ale_unit.AleUnit.{AleUnit}
use Rattle.unit_core.specs.declared.records.Record.{Record}
use Rattle.unit_core.specs.declared.records.Record.TheVariants as log
use Rattle.unit_core.specs.Queues.{unit_named}
use Rattle.unit_codec.specs.Condition.{IsUnit}
use Rattle.inbound_post.specs.declared.prepared.DocPosting.{DocPosting}
use Rattle.document_state.specs.declared.made.Made.{Made}
use Rattle.document_state.specs.Made.{GoesWith}
use Rattle.document_state.specs.OfLog.{applied_by, postings_behind}
use Rattle.log_tables.specs.Read.{CommitFew, executed_unit}
use Rattle.document_state.specs.Meaning.{model_meaning}
use Rattle.document_state.specs.steps.Replaying.{IsNext, units_made}
use Rattle.document_state.specs.LawfulLemmas.{committed-push}
use Rattle.document_state.proofs.WritableLemmas.{commit-writable}
use Rattle.document_state.proofs.ReplayLemmas.{executes, made-units}
use Rattle.said_models.specs.OfLog.{models_of, model_of}
use Rattle.outbound_build.specs.Committed.{committed_of}

-- what a legal log commits can be written, and so it has few queues
pub commit-few : (systems : ℕ) → CommitFew (model_meaning systems)
commit-few systems = record {
  each = λ system records legal unit has.
      let is : IsUnit unit = commit-writable systems system records legal unit has in
      record { few = is.outq.0; different = is.outq.1 };
}

-- what was made of the unit that an Execute executes goes with it
pub goes-executed : (system : ℕ) (records : List Record) (next : Record) (unit value : AleUnit) (postings : List DocPosting)
    → IsNext system records next → executed_unit records next ≡ Some unit → value ≡ unit
    → ((applied_by records).system ≡ system → postings ≡ postings_behind records unit)
    → (tid : TidOf) × (next ≡ log.Execute tid)
    × ((model : Lists) → model_of records ≡ Some model → unit_named tid (applied_by records).application.received ≡ Some value)
    × (postings ≡ postings_behind records value)
goes-executed system records (log.Execute tid) unit value postings is named same posts =
    let was = executes system records tid is in (
      tid,
      refl,
      λ model known. ap (unit_named tid) was.all ∙ named ∙ ap Some (sym same),
      posts was.same ∙ ap (postings_behind records) (sym same),
    )
goes-executed system records _ unit value postings is named same posts = absurd (none-some unit named)

-- the units that were made for a record are those that it commits
pub commits-made : (records : List Record) (next : Record) (made : Made) (units : List AleUnit) → GoesWith records next made → units ≡ units_made made
    → committed_of (models_of (records ++ next ∷ [])) (records ++ next ∷ []) ≡ committed_of (models_of records) records ++ units
commits-made records next made units goes same =
    committed-push records next
    ∙ ap (λ (us : List AleUnit). committed_of (models_of records) records ++ us) (sym (made-units records next made goes) ∙ sym same)

-- a log that is begun has a record
pub begun-some : (records : List Record) → records ≢ [] → 1 ≤ length records
begun-some [] begun = absurd (begun refl)
begun-some (first ∷ rest) begun = omega arith
