-- What is prepared of the documents of a unit stays so while works go on: none of their records brings another model into force.
use Rattle.std.specs.Prelude.{IfSome}
use Rattle.std.specs.List.{list_all}
use Rattle.std.specs.Option.{option_map_or}
use Rattle.std.proofs.Common.{◌≡◌, ℕ, zero, suc, true, Option, Some, None, List, [], ◌∷◌, ◌++◌, refl, sym, ap, subst, ◌∙◌, append-nil, append_assoc}
use Rattle.std.proofs.lemmas.Bool.{and_parts}
use Rattle.ale_base.specs.Tid.{TidOf}
use Rattle.unit_core.specs.declared.ale_unit.AleUnit.{AleUnit}
use Rattle.unit_core.specs.declared.records.Record.{Record}
use Rattle.unit_core.specs.declared.records.Record.TheVariants as log
use Rattle.dist_model.specs.declared.lists.Lists.{Lists}
use Rattle.inbound_post.specs.declared.prepared.DocPosting.{DocPosting}
use Rattle.inbound_post.specs.declared.prepared.Prepared.{Prepared}
use Rattle.inbound_post.specs.Application.{past_of}
use Rattle.inbound_post.specs.Prepared.{prepared}
use Rattle.inbound_post.proofs.ApplicationLemmas.{past_of-push}
use Rattle.log_models.specs.InForce.{system_after}
use Rattle.said_models.specs.OfLog.{model_of, models_of, text_of}
use Rattle.said_models.proofs.OfLogLemmas.{model_of-stay, models_of-stay}
use Rattle.document_state.specs.OfLog.{applied_by, postings_behind}
use Rattle.trfc_protocol.specs.declared.world.World.{World}
use Rattle.trfc_protocol.specs.Worlds.{committed_unit, log_of}
use Rattle.document_state.specs.declared.model_rules.ModelRules.{ModelRules}
use Rattle.document_state.specs.Meaning.{model_meaning}
use Rattle.landscape.specs.Working.{IsPreparedFor}
use Rattle.unit_landscape.specs.declared.answers.Arrival.{Arrival}
use Rattle.unit_landscape.specs.declared.answers.Arrival.TheVariants as arrival
use Rattle.unit_works.specs.Events.{is_works_record}
use Rattle.unit_works.specs.Went.{HaveWorksBehind}
use Rattle.unit_works.specs.steps.Arriving.{BeginsOn, IsReadyFor}

-- a record of works has no text
pub no-text : (next : Record) → is_works_record next ≡ true → text_of next ≡ None
no-text (log.Mark tid cause) works = refl
no-text (log.Done tid) works = refl
no-text (log.Ended tid) works = refl
no-text (log.Accept unit) works = refl
no-text (log.Execute tid) works = refl
no-text (log.Direct unit) works = refl
no-text (log.Fail tid) works = refl
no-text (log.Forget tid) works = refl
no-text _ works = cc

-- and names no system
same-system : (models before : ℕ) (next : Record) → text_of next ≡ None → system_after models before next ≡ before
same-system zero before (log.Genesis system text) none = cc
same-system zero before (log.Commit origin docs) none = refl
same-system zero before log.Dispatch none = refl
same-system zero before (log.Mark tid cause) none = refl
same-system zero before (log.Done tid) none = refl
same-system zero before (log.Ended tid) none = refl
same-system zero before (log.Accept unit) none = refl
same-system zero before (log.Execute tid) none = refl
same-system zero before (log.Direct unit) none = refl
same-system zero before (log.Fail tid) none = refl
same-system zero before (log.Forget tid) none = refl
same-system zero before (log.Stop way destination name) none = refl
same-system zero before (log.Start way destination name) none = refl
same-system zero before (log.Retry way tid) none = refl
same-system zero before (log.Put kind key fields) none = refl
same-system zero before (log.App doc) none = refl
same-system zero before (log.Repost doc) none = refl
same-system zero before (log.Model text) none = cc
same-system (suc models) before next none = refl

applied-stays : (records : List Record) (next : Record) → text_of next ≡ None → (applied_by (records ++ next ∷ [])).system ≡ (applied_by records).system
applied-stays records next none =
    ap (λ models. (past_of models (records ++ next ∷ [])).system) (models_of-stay records next none)
    ∙ ap (λ past. past.system) (past_of-push (models_of records) records next)
    ∙ same-system (past_of (models_of records) records).models (past_of (models_of records) records).system next none

-- one record of works leaves the postings of units
postings-stay : (records : List Record) (next : Record) (unit : AleUnit) → is_works_record next ≡ true
    → postings_behind (records ++ next ∷ []) unit ≡ postings_behind records unit
postings-stay records next unit works =
    let none = no-text next works in
    ap (λ (system : ℕ). option_map_or (λ (model : Lists). (prepared model system unit).postings) (model_of (records ++ next ∷ [])) [])
    (applied-stays records next none)
    ∙ ap (λ (found : Option Lists). option_map_or (λ (model : Lists). (prepared model (applied_by records).system unit).postings) found [])
    (model_of-stay records next none)

-- so do all
postings-last : (records added : List Record) (unit : AleUnit) → list_all is_works_record added ≡ true
    → postings_behind (records ++ added) unit ≡ postings_behind records unit
postings-last records [] unit works = ap (λ l. postings_behind l unit) (append-nil records)
postings-last records (next ∷ added) unit works =
    let parts = and_parts (is_works_record next) (list_all is_works_record added) works in
    ap (λ l. postings_behind l unit) (sym (append_assoc records (next ∷ []) added))
    ∙ postings-last (records ++ next ∷ []) added unit parts.1
    ∙ postings-stay records next unit parts.0

-- what is prepared for a unit before works is prepared for it behind them
pub prepared-lasts : (before after : World ModelRules) (tid : TidOf) (postings : List DocPosting) → HaveWorksBehind before after
    → committed_unit (model_meaning after.rules.systems) after tid ≡ committed_unit (model_meaning before.rules.systems) before tid
    → IsPreparedFor before tid postings → IsPreparedFor after tid postings
prepared-lasts before after tid postings logs committed prepared = λ unit named.
    let more = logs unit.receiver in
    prepared unit (sym committed ∙ named)
    ∙ sym (postings-last (log_of before unit.receiver) more.0 unit more.2)
    ∙ ap (λ l. postings_behind l unit) (sym more.1)

-- and the other way round
pub prepared-before : (before after : World ModelRules) (tid : TidOf) (postings : List DocPosting) → HaveWorksBehind before after
    → committed_unit (model_meaning after.rules.systems) after tid ≡ committed_unit (model_meaning before.rules.systems) before tid
    → IsPreparedFor after tid postings → IsPreparedFor before tid postings
prepared-before before after tid postings logs committed prepared = λ unit named.
    let more = logs unit.receiver in
    prepared unit (committed ∙ named)
    ∙ ap (λ l. postings_behind l unit) more.1
    ∙ postings-last (log_of before unit.receiver) more.0 unit more.2

-- what is prepared for a unit is ready for the run that its arrival begins
pub ready-arrived : (before after : World ModelRules) (tid : TidOf) (ready : Option Prepared) (arrival : Arrival) → HaveWorksBehind before after
    → committed_unit (model_meaning after.rules.systems) after tid ≡ committed_unit (model_meaning before.rules.systems) before tid
    → IfSome ready (λ (prepared : Prepared). IsPreparedFor before tid prepared.postings) → BeginsOn tid arrival
    → IfSome ready (λ (prepared : Prepared). IsReadyFor after prepared.postings arrival)
ready-arrived before after tid None arrival logs committed prepared begins = tt
ready-arrived before after tid (Some ready) (arrival.Run claim) logs committed prepared begins =
    subst (λ t. IsPreparedFor after t ready.postings) (sym begins) (prepared-lasts before after tid ready.postings logs committed prepared)
ready-arrived before after tid (Some ready) (arrival.New receipt) logs committed prepared begins = tt
ready-arrived before after tid (Some ready) (arrival.Known receipt) logs committed prepared begins = tt
ready-arrived before after tid (Some ready) arrival.Busy logs committed prepared begins = tt
ready-arrived before after tid (Some ready) arrival.SysFail logs committed prepared begins = tt
ready-arrived before after tid (Some ready) arrival.Down logs committed prepared begins = tt
