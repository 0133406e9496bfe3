-- A document that had a posting keeps one, whichever model comes into force: so what a legal log passes to the application again is read.
use Rattle.std.specs.Prelude.{not, slice_get}
use Rattle.std.specs.List.{AllByRecursion}
use Rattle.std.specs.Option.{option_map_or}
use Rattle.std.proofs.Common.{◌≡◌, ◌⊎◌, inl, inr, ℕ, zero, suc, true, false, Option, Some, None, List, [], ◌∷◌, ◌++◌, refl, sym, ap, subst, ◌∙◌}
use Rattle.std.proofs.lemmas.Bool.{and_parts}
use Rattle.ale_base.proofs.ListLemmas.{AllByRecursion-at, AllByRecursion-weaker}
use Rattle.ale_base.proofs.OptionLemmas.{none_or_some}
use Rattle.dist_model.specs.declared.lists.Lists.{Lists}
use Rattle.dist_model.specs.Model.{IsModel}
use Rattle.unit_core.specs.declared.raw_unit_doc.RawUnitDoc.{RawUnitDoc}
use Rattle.unit_core.specs.declared.records.Record.{Record}
use Rattle.unit_core.specs.declared.records.Record.TheVariants as log
use Rattle.model_growth.specs.Growth.{IsGrown}
use Rattle.model_growth.proofs.NumberLemmas.{found-renamed, message-renamed, renamed, renamed-apart}
use Rattle.said_models.specs.OfLog.{model_of, text_of}
use Rattle.said_models.proofs.OfLogLemmas.{model_of-known, model_of-stay}
use Rattle.inbound_post.specs.Application.{Application, Arrived, counted, past_of, statuses_at}
use Rattle.inbound_post.specs.Reading.{posting}
use Rattle.inbound_post.proofs.KeptPostingLemmas.{posting-renamed}
use Rattle.inbound_post.proofs.StaysReadLemmas.{AreRead, IsError, IsNoError, IsRead, PassesNoError, application-read}
use Rattle.application_rules.specs.Last.{last_is}
use Rattle.application_rules.proofs.LastLemmas.{last_is-second}
use Rattle.trfc_protocol.specs.Legal.{IsLegal, may_follow}
use Rattle.document_state.specs.OfLog.{applied_by}
use Rattle.document_state.specs.Allowed.{may_replace, stands_at, waits_any}
use Rattle.document_state.specs.Meaning.{model_meaning}
use Rattle.document_state.specs.steps.Applying.{applied_under, renumbered_at}
use Rattle.document_state.specs.LawfulLemmas.{allows-by, legal-keeps}
use Rattle.document_state.proofs.AddressedLemmas.{model-kept, replaced-grown}
use Rattle.document_state.proofs.PushLemmas.{applied-push}

-- a document that has a posting under a model has one under each model that keeps that one
pub posting-stays : (old new : Lists) → IsModel old → IsModel new → IsGrown old new → (doc : RawUnitDoc) → (posting old doc ≡ None → ⊥)
    → posting new doc ≡ None → ⊥
posting-stays old new old_kept new_kept grown doc has none = elim (none_or_some (posting old doc)) [
  | inl nothing ↦ has nothing
  | inr some ↦
      let made = posting-renamed old new old_kept new_kept (renamed old new) (renamed-apart old new old_kept new_kept grown)
      (found-renamed old new old_kept new_kept grown) (message-renamed old new old_kept new_kept grown) doc some.0 some.1 in
      let lies = sym made.1 ∙ none in
      absurd (cc)
]

-- a document whose last status is 64 or 51 is no error
no-error : (code : ℕ) → (code ≡ 64) ⊎ (code ≡ 51) → (documents : List Arrived) (number : ℕ) → last_is code (statuses_at documents number) ≡ true
    → IsNoError documents number
no-error code is documents zero last = tt
no-error code is documents (suc place) last = λ document here error. told document error
    (sym (ap (λ (o : Option Arrived). last_is code (option_map_or (λ d. d.statuses) o [])) here) ∙ last) is
  where
    told : (document : Arrived) → IsError document → last_is code document.statuses ≡ true → (code ≡ 64) ⊎ (code ≡ 51) → ⊥
    told document error statuses (inl is_64) =
        let lies : last_is 64 document.statuses ≡ true = subst (λ (n : ℕ). last_is n document.statuses ≡ true) is_64 statuses in
        let never : false ≡ true = sym (last_is-second 64 document.statuses _ _ error) ∙ lies in
        absurd (cc)
    told document error statuses (inr is_51) =
        let lies : last_is 51 document.statuses ≡ true = subst (λ (n : ℕ). last_is n document.statuses ≡ true) is_51 statuses in
        let never : false ≡ true = sym (last_is-second 51 document.statuses _ _ error) ∙ lies in
        absurd (cc)

-- behind a log each inbound document is an error, or has a posting under the model in force
abbrev IsReadLog : List Record → Type 0
IsReadLog records = (model : Lists) → model_of records ≡ Some model → AreRead model (applied_by records).application

-- no document came in behind no record
nothing-came : (model : Lists) → AreRead model (applied_by []).application
unfolding past_of
nothing-came model = tt

module _ (systems system : ℕ) where
  -- a record without a text is taken under the model that stays in force
  read-stay : (records : List Record) (next : Record) → text_of next ≡ None
      → ((found later : Option Lists) (application : Application) → renumbered_at found later next application ≡ application)
      → PassesNoError (counted (applied_by records).application) next → IsReadLog records → IsReadLog (records ++ next ∷ [])
  read-stay records next silent same passes all model found =
      let known = sym (model_of-stay records next silent) ∙ found in
      let past = applied_by records in
      subst (AreRead model) (sym (applied-push records next ∙ same (model_of records) (model_of (records ++ next ∷ [])) _
      ∙ ap (λ (o : Option Lists). applied_under o past.system (counted past.application) next) known))
      (application-read model past.system (counted past.application) next passes (all model known))

  -- another model that keeps the one before it reads what that reads
  read-model : (one : Record) (rest : List Record) (text : List ℕ) → may_follow (model_meaning systems) system (one ∷ rest) (log.Model text) ≡ true
      → IsReadLog (one ∷ rest) → IsReadLog ((one ∷ rest) ++ log.Model text ∷ [])
  read-model one rest text may all model found =
      let records = one ∷ rest in
      let by = allows-by systems records (log.Model text) may in
      let parts = and_parts (not (waits_any records)) (may_replace by.0 text) by.3 in
      let says = sym (model_of-known records (log.Model text) text by.0 refl by.1) ∙ found in
      let grown = replaced-grown by.0 text parts.1 model says in
      let past = applied_by records in
      let old_kept = model-kept records by.0 by.1 in
      let new_kept = model-kept (records ++ log.Model text ∷ []) model found in
      let under = application-read by.0 past.system (counted past.application) (log.Model text) tt (all by.0 by.1) in
      subst (λ (a : Application). AreRead model a) (sym (applied-push records (log.Model text)))
      (subst (λ (o : Option Lists). AllByRecursion (IsRead model) (applied_under o past.system (counted past.application) (log.Model text)).documents)
      (sym by.1)
      (AllByRecursion-weaker (IsRead by.0) (IsRead model) past.application.documents
      (λ document is. elim is [
        | inl error ↦ inl error
        | inr read ↦ inr (posting-stays by.0 model old_kept new_kept grown document.document read)
      ]) under))

  read-next : (records : List Record) (next : Record) → may_follow (model_meaning systems) system records next ≡ true → IsReadLog records
      → IsReadLog (records ++ next ∷ [])
  read-next [] (log.Genesis number text) may all = λ model found. subst (AreRead model) (sym (applied-push [] (log.Genesis number text))) (nothing-came model)
  read-next [] _ may all = absurd (let lies = may in cc)
  read-next (one ∷ rest) (log.Genesis number text) may all = absurd (let lies = may in cc)
  read-next (one ∷ rest) (log.Model text) may all = read-model one rest text may all
  read-next (one ∷ rest) (log.App doc) may all =
      let by = allows-by systems (one ∷ rest) (log.App doc) may in
      read-stay (one ∷ rest) (log.App doc) refl (λ found later application. refl)
      (no-error 64 (inl refl) (applied_by (one ∷ rest)).application.documents doc.0 by.3) all
  read-next (one ∷ rest) (log.Repost doc) may all =
      let by = allows-by systems (one ∷ rest) (log.Repost doc) may in
      read-stay (one ∷ rest) (log.Repost doc) refl (λ found later application. refl)
      (no-error 51 (inr refl) (applied_by (one ∷ rest)).application.documents doc.0 by.3) all
  read-next (one ∷ rest) next may all = read-stay (one ∷ rest) next refl (λ found later application. refl) tt all

  nothing-read : IsReadLog []
  nothing-read model found = absurd (cc)

  -- behind a legal log each inbound document is an error, or has a posting under the model in force, whichever was in force as it came in
  pub legal-read : (records : List Record) → IsLegal (model_meaning systems) system records → (model : Lists) → model_of records ≡ Some model
      → AreRead model (applied_by records).application
  legal-read records legal = legal-keeps (model_meaning systems) system IsReadLog nothing-read read-next records legal

  -- what an App or a Repost passes that may follow a legal log has a posting
  pub passed-has : (records : List Record) → IsLegal (model_meaning systems) system records → (model : Lists) → model_of records ≡ Some model
      → (code : ℕ) → (code ≡ 64) ⊎ (code ≡ 51) → (place : ℕ) (document : Arrived)
      → slice_get (applied_by records).application.documents place ≡ Some document → stands_at records code (suc place) ≡ true
      → posting model document.document ≡ None → ⊥
  passed-has records legal model known code is place document here last none =
      elim (AllByRecursion-at (IsRead model) (applied_by records).application.documents place document (legal-read records legal model known) here) [
        | inl error ↦ no-error code is (applied_by records).application.documents (suc place) last document here error
        | inr read ↦ read none
      ]
