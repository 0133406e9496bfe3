-- What is known of the outbound documents and units behind a log with one more record.
use Rattle.std.specs.Prelude.{fold}
use Rattle.std.specs.Option.{option_map_or}
use Rattle.std.proofs.Common.{◌≡◌, ◌≤◌, Option, List, [], ◌∷◌, ◌++◌, length, refl, sym, ap, ◌∙◌, arith}
use Rattle.dist_model.specs.declared.lists.Lists.{Lists}
use Rattle.unit_core.specs.declared.records.Record.{Record}
use Rattle.log_models.specs.InForce.{in_force, models_after, models_in}
use Rattle.log_models.proofs.InForceLemmas.{in_force-before, models-grow}
use Rattle.said_models.specs.OfLog.{models_of}
use Rattle.said_models.proofs.OfLogLemmas.{in_force-grown, of-grown}
use Rattle.outbound_build.specs.Added.{added_by}
use Rattle.outbound_build.specs.Committed.{no_more}
use Rattle.outbound_build.specs.Statuses.{Tracked, nothing_tracked, tracked_after, tracked_of, tracked_with}
use Rattle.outbound_build.proofs.TrackedLemmas.{tracked_of-push}
use Rattle.document_state.specs.OfLog.{sent_by, added_behind}

-- ---- models of later records make no difference

tracked-before : (models more : List Lists) (records : List Record) (tracked : Tracked) → fold models_after tracked.past.models records ≤ length models
    → fold (tracked_after (models ++ more)) tracked records ≡ fold (tracked_after models) tracked records
tracked-before models more [] tracked within = refl
tracked-before models more (next ∷ records) tracked within =
    let least = models-grow tracked.past.models (next ∷ records) in
    let force = in_force-before models more tracked.past.models (omega (arith, least, within)) in
    let same : tracked_after (models ++ more) tracked next ≡ tracked_after models tracked next
    = ap (λ (o : Option Lists). tracked_with tracked next (option_map_or (λ model. added_by model tracked.past.system tracked.past.outbox next) o no_more))
    force in
    ap (λ (t : Tracked). fold (tracked_after (models ++ more)) t records) same ∙ tracked-before models more records (tracked_after models tracked next) within

tracked_of-before : (models more : List Lists) (records : List Record) → models_in records ≤ length models →
    tracked_of (models ++ more) records ≡ tracked_of models records
unfolding tracked_of
tracked_of-before models more records within = tracked-before models more records nothing_tracked within

-- ---- how many models there were

tracked-counts : (models : List Lists) (records : List Record) (tracked : Tracked)
    → (fold (tracked_after models) tracked records).past.models ≡ fold models_after tracked.past.models records
tracked-counts models [] tracked = refl
tracked-counts models (next ∷ records) tracked = tracked-counts models records (tracked_after models tracked next)

-- what is known of the outbound side counts the models of the log
pub sent-counts : (records : List Record) → (sent_by records).past.models ≡ models_in records
unfolding tracked_of
sent-counts records = tracked-counts (models_of records) records nothing_tracked

-- ---- one more record

-- the outbound documents and units, with their statuses
pub sent-push : (records : List Record) (next : Record)
    → sent_by (records ++ next ∷ []) ≡ tracked_with (sent_by records) next (added_behind records next)
sent-push records next =
    let longer = models_of (records ++ next ∷ []) in
    let tracked = sent_by records in
    let counts : tracked.past.models ≡ models_in records = sent-counts records in
    tracked_of-push longer records next
    ∙ ap (λ (t : Tracked). tracked_after longer t next) (of-grown tracked_of tracked_of-before records next)
    ∙ ap (λ (o : Option Lists). tracked_with tracked next (option_map_or (λ model. added_by model tracked.past.system tracked.past.outbox next) o no_more))
    (ap (in_force longer) counts ∙ in_force-grown records next ∙ sym (ap (in_force (models_of records)) counts))
