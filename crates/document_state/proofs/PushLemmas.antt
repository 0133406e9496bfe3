-- What is known of the application behind a log with one more record, and which records add no documents.
use Rattle.std.specs.Prelude.{fold}
use Rattle.std.specs.Option.{option_map_or}
use Rattle.std.proofs.Common.{◌≡◌, suc, ◌≤◌, false, Option, Some, None, List, [], ◌∷◌, ◌++◌, length, refl, sym, ap, ◌∙◌, arith}
use Rattle.dist_model.specs.declared.lists.Lists.{Lists}
use Rattle.unit_core.specs.declared.records.Record.{Record}
use Rattle.unit_core.specs.declared.records.Record.TheVariants as log
use Rattle.log_models.specs.InForce.{in_force, models_after, models_in, system_after}
use Rattle.log_models.proofs.InForceLemmas.{in_force-before, models-grow, models-least, models_in-push}
use Rattle.said_models.specs.OfLog.{models_of, model_of}
use Rattle.said_models.proofs.OfLogLemmas.{in_force-grown, of-grown}
use Rattle.outbound_build.specs.Added.{added_by, adds_any}
use Rattle.outbound_build.specs.Committed.{Past as Sending, no_more}
use Rattle.outbound_build.proofs.LogLemmas.{added-nothing as nothing_by}
use Rattle.inbound_post.specs.Application.{Application, Past, application_after, counted, next_application, no_past, past_after, past_of, pointers_under}
use Rattle.inbound_post.proofs.ApplicationLemmas.{past_of-push}
use Rattle.document_state.specs.OfLog.{sent_by, applied_by, added_behind}
use Rattle.document_state.specs.steps.Applying.{applied_under, renumbered_at}

-- ---- models of later records make no difference

next-same : (models more : List Lists) (past : Past) (next : Record) → models_after past.models next ≤ length models
    → next_application (models ++ more) past next ≡ next_application models past next
next-same models more past (log.Model text) within =
    ap (λ (o : Option Lists). record (counted past.application)
    { pointers = pointers_under o (in_force (models ++ more) (suc past.models)) past.application.pointers })
    (in_force-before models more past.models (omega (arith, within)))
    ∙ ap (λ (o : Option Lists). record (counted past.application)
    { pointers = pointers_under (in_force models past.models) o past.application.pointers })
    (in_force-before models more (suc past.models) within)
next-same models more past next within =
    let least = models-least past.models next in
    ap (λ (o : Option Lists). option_map_or (λ model. application_after model past.system (counted past.application) next) o (counted past.application))
    (in_force-before models more past.models (omega (arith, least, within)))

past-before : (models more : List Lists) (records : List Record) (past : Past) → fold models_after past.models records ≤ length models
    → fold (past_after (models ++ more)) past records ≡ fold (past_after models) past records
past-before models more [] past within = refl
past-before models more (next ∷ records) past within =
    let least = models-grow (models_after past.models next) records in
    let same : past_after (models ++ more) past next ≡ past_after models past next =
    ap (λ (a : Application). record { models = models_after past.models next; system = system_after past.models past.system next; application = a })
    (next-same models more past next (omega (arith, least, within))) in
    ap (λ (p : Past). fold (past_after (models ++ more)) p records) same ∙ past-before models more records (past_after models past next) within

past_of-before : (models more : List Lists) (records : List Record) → models_in records ≤ length models →
    past_of (models ++ more) records ≡ past_of models records
unfolding past_of
past_of-before models more records within = past-before models more records no_past within

-- ---- how many models there were

past-counts : (models : List Lists) (records : List Record) (past : Past) → (fold (past_after models) past records).models
    ≡ fold models_after past.models records
past-counts models [] past = refl
past-counts models (next ∷ records) past = past-counts models records (past_after models past next)

applied-counts : (records : List Record) → (applied_by records).models ≡ models_in records
unfolding past_of
applied-counts records = past-counts (models_of records) records no_past

-- ---- one more record

nothing_under : (found : Option Lists) (past : Sending) (next : Record) → adds_any next ≡ false
    → option_map_or (λ model. added_by model past.system past.outbox next) found no_more ≡ no_more
nothing_under None past next none = refl
nothing_under (Some model) past next none = nothing_by model past.system past.outbox next none

-- a record that is no Commit and no Dispatch adds nothing
pub added-nothing : (records : List Record) (next : Record) → adds_any next ≡ false → added_behind records next ≡ no_more
added-nothing records next none = nothing_under (in_force (models_of records) (sent_by records).past.models) (sent_by records).past next none

-- an application that stays under no model and under each
stays : (found : Option Lists) (application : Application) → option_map_or (λ model. application) found application ≡ application
stays None application = refl
stays (Some model) application = refl

next-by : (longer : List Lists) (past : Past) (next : Record)
    → next_application longer past next
    ≡ renumbered_at (in_force longer past.models) (in_force longer (models_after past.models next)) next
    (applied_under (in_force longer past.models) past.system (counted past.application) next)
next-by longer past (log.Model text) =
    ap (λ (a : Application). record a { pointers = pointers_under (in_force longer past.models) (in_force longer (suc past.models)) a.pointers })
    (sym (stays (in_force longer past.models) (counted past.application)))
next-by longer past next = refl

-- the application: the record is taken under the model in force before it
pub applied-push : (records : List Record) (next : Record)
    → (applied_by (records ++ next ∷ [])).application
    ≡ renumbered_at (model_of records) (model_of (records ++ next ∷ [])) next
    (applied_under (model_of records) (applied_by records).system (counted (applied_by records).application) next)
applied-push records next =
    let longer = models_of (records ++ next ∷ []) in
    let past = applied_by records in
    let counts : past.models ≡ models_in records = applied-counts records in
    let now : in_force longer past.models ≡ model_of records = ap (in_force longer) counts ∙ in_force-grown records next in
    let later : in_force longer (models_after past.models next) ≡ model_of (records ++ next ∷ []) =
    ap (λ n. in_force longer (models_after n next)) counts ∙ sym (ap (in_force longer) (models_in-push records next)) in
    ap (λ (p : Past). p.application) (past_of-push longer records next)
    ∙ ap (λ (p : Past). next_application longer p next) (of-grown past_of past_of-before records next)
    ∙ next-by longer past next
    ∙ ap (λ (o : Option Lists). renumbered_at o (in_force longer (models_after past.models next)) next (applied_under o past.system
    (counted past.application) next)) now
    ∙ ap (λ (o : Option Lists). renumbered_at (model_of records) o next (applied_under (model_of records) past.system (counted past.application) next)) later
