-- What is known behind a legal log of a landscape that works by models: whose log it is, what it received, and that a model stays in force.
use Rattle.std.specs.Prelude.{fold, not}
use Rattle.std.proofs.Common.{◌≡◌, ℕ, zero, suc, ◌≤◌, true, Some, List, [], ◌∷◌, ◌++◌, length, refl, sym, ap, ◌∙◌, arith}
use Rattle.std.proofs.lemmas.Bool.{and_parts}
use Rattle.std.proofs.lemmas.Option.{slice_get_within}
use Rattle.dist_model.specs.declared.lists.Lists.{Lists}
use Rattle.unit_core.specs.Filters.{received}
use Rattle.unit_core.specs.declared.records.Record.{Record}
use Rattle.unit_core.specs.declared.records.Record.TheVariants as log
use Rattle.log_models.specs.InForce.{in_force, models_in, system_after}
use Rattle.log_models.proofs.InForceLemmas.{models-least}
use Rattle.said_models.specs.Said.{said}
use Rattle.said_models.specs.OfLog.{models_of, model_of}
use Rattle.said_models.proofs.OfLogLemmas.{model_of-first, model_of-known, model_of-stay}
use Rattle.outbound_build.specs.Committed.{IsLogOf}
use Rattle.outbound_build.specs.Statuses.{Tracked, nothing_tracked, tracked_after, tracked_of}
use Rattle.inbound_post.specs.Application.{Past, no_past, past_after, past_of}
use Rattle.inbound_post.proofs.RecordLemmas.{received-log}
use Rattle.document_state.specs.OfLog.{sent_by, applied_by}
use Rattle.trfc_protocol.specs.Legal.{IsLegal, may_follow}
use Rattle.document_state.specs.Allowed.{may_replace, waits_any}
use Rattle.document_state.specs.Meaning.{model_meaning}
use Rattle.document_state.specs.LawfulLemmas.{allows-by, follows-keep, legal-of, said-replaced}

-- ---- whose log it is

-- the system of a log that has a text stays
system-stays : (models before : ℕ) (next : Record) → 1 ≤ models → system_after models before next ≡ before
system-stays zero before next some = absurd (omega (arith, some))
system-stays (suc models) before next some = refl

sent-stays : (models : List Lists) (records : List Record) (tracked : Tracked) → 1 ≤ tracked.past.models
    → (fold (tracked_after models) tracked records).past.system ≡ tracked.past.system
sent-stays models [] tracked some = refl
sent-stays models (next ∷ records) tracked some =
    let least = models-least tracked.past.models next in
    sent-stays models records (tracked_after models tracked next) (omega (arith, some, least))
    ∙ system-stays tracked.past.models tracked.past.system next some

applied-stays : (models : List Lists) (records : List Record) (past : Past) → 1 ≤ past.models → (fold (past_after models) past records).system ≡ past.system
applied-stays models [] past some = refl
applied-stays models (next ∷ records) past some =
    let least = models-least past.models next in
    applied-stays models records (past_after models past next) (omega (arith, some, least)) ∙ system-stays past.models past.system next some

-- the log of a system that has a record is that of the system
pub sent-begun : (system : ℕ) (records : List Record) → IsLogOf system records → 1 ≤ length records → (sent_by records).past.system ≡ system
unfolding tracked_of
sent-begun system [] of some = absurd (omega (arith, some))
sent-begun system (log.Genesis number text ∷ rest) of some =
    let models = models_of (log.Genesis number text ∷ rest) in
    sent-stays models rest (tracked_after models nothing_tracked (log.Genesis number text)) (omega arith) ∙ of
sent-begun system (_ ∷ rest) of some = absurd of

applied-begun : (system : ℕ) (records : List Record) → IsLogOf system records → 1 ≤ length records → (applied_by records).system ≡ system
unfolding past_of
applied-begun system [] of some = absurd (omega (arith, some))
applied-begun system (log.Genesis number text ∷ rest) of some =
    let models = models_of (log.Genesis number text ∷ rest) in
    applied-stays models rest (past_after models no_past (log.Genesis number text)) (omega arith) ∙ of
applied-begun system (_ ∷ rest) of some = absurd of

-- a legal log that has a record is its system's
pub legal-system : (systems system : ℕ) (records : List Record) → IsLegal (model_meaning systems) system records → 1 ≤ length records
    → (sent_by records).past.system ≡ system
legal-system systems system records legal some = sent-begun system records (legal-of (model_meaning systems) system records legal) some

-- ---- a model in force

-- a log behind which a model is in force has a record
begun : (records : List Record) (model : Lists) → model_of records ≡ Some model → 1 ≤ length records
begun [] model is = absurd (cc)
begun (first ∷ rest) model is = omega arith

-- each of its texts says one
whole : (records : List Record) (model : Lists) → model_of records ≡ Some model → models_in records ≤ length (models_of records)
whole records model is = of (models_in records) refl
  where
    of : (count : ℕ) → models_in records ≡ count → models_in records ≤ length (models_of records)
    of zero none = omega (arith, none)
    of (suc last) some =
        let within = slice_get_within (models_of records) last model (sym (ap (in_force (models_of records)) some) ∙ is) in
        omega (arith, some, within)

received-begun : (system : ℕ) (records : List Record) → IsLogOf system records → models_in records ≤ length (models_of records)
    → (applied_by records).application.received ≡ received records
unfolding past_of
received-begun system [] of most = refl
received-begun system (log.Genesis number text ∷ rest) of most = received-log (models_of (log.Genesis number text ∷ rest)) number text rest most
received-begun system (_ ∷ rest) of most = absurd of

-- a model of so many systems is in force behind a log
abbrev pub HasModel : ℕ → List Record → Type 0
HasModel systems records = (now : Lists) × (model_of records ≡ Some now) × (length now.systems ≡ systems)

module _ (systems system : ℕ) (records : List Record) (legal : IsLegal (model_meaning systems) system records) (model : Lists)
    (is : model_of records ≡ Some model) where
  -- a legal log behind which a model is in force is its system's: for what it sent
  pub sent-system : (sent_by records).past.system ≡ system
  sent-system = legal-system systems system records legal (begun records model is)

  -- and for its application
  pub applied-system : (applied_by records).system ≡ system
  applied-system = applied-begun system records (legal-of (model_meaning systems) system records legal) (begun records model is)

  -- the application received what the records took in
  pub received-applied : (applied_by records).application.received ≡ received records
  received-applied = received-begun system records (legal-of (model_meaning systems) system records legal) (whole records model is)

module _ (systems system : ℕ) where
  -- a record that may follow leaves a model of so many systems in force
  stays-model : (before : List Record) (next : Record) → may_follow (model_meaning systems) system before next ≡ true → HasModel systems before
      → HasModel systems (before ++ next ∷ [])
  stays-model [] next may has = absurd (let lies = has.1 in cc)
  stays-model (one ∷ rest) (log.Genesis number text) may has = absurd (let lies = may in cc)
  stays-model (one ∷ rest) (log.Model text) may has =
      let by = allows-by systems (one ∷ rest) (log.Model text) may in
      let parts = and_parts (not (waits_any (one ∷ rest))) (may_replace by.0 text) by.3 in
      let new = said-replaced systems by.0 text by.2 parts.1 in
      (new.0, model_of-known (one ∷ rest) (log.Model text) text by.0 refl by.1 ∙ new.1, new.2)
  stays-model (one ∷ rest) next may has = (has.0, model_of-stay (one ∷ rest) next refl ∙ has.1, has.2)

  -- a legal log that begins with a text that says a model of so many systems has one in force at its end
  pub has-model : (text : List ℕ) (rest : List Record) (model : Lists) → IsLegal (model_meaning systems) system (log.Genesis system text ∷ rest)
      → said text ≡ Some model → length model.systems ≡ systems → HasModel systems (log.Genesis system text ∷ rest)
  has-model text rest model legal says same =
      follows-keep (model_meaning systems) system (HasModel systems) stays-model (log.Genesis system text ∷ []) rest
      (model, model_of-first [] (log.Genesis system text) text refl refl ∙ says, same) legal.1
