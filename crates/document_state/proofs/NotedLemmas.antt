-- Tables once a record is noted.
use Rattle.std.specs.Prelude.{◌↔◌, IsTrue}
use Rattle.std.specs.Arc.{arc_value}
use Rattle.std.specs.Option.{option_map}
use Rattle.std.proofs.Common.{◌≡◌, ℕ, zero, suc, ◌≤◌, Bool, true, false, Option, Some, None, option_and_then, List, [], ◌∷◌, ◌++◌, refl, sym, ap, subst, ◌∙◌}
use Rattle.std.proofs.Common.{arith}
use Rattle.dist_model.specs.declared.lists.Lists.{Lists}
use Rattle.ale_base.specs.Tid.{TidOf}
use Rattle.unit_core.specs.declared.ale_unit.AleUnit.{AleUnit}
use Rattle.unit_core.specs.declared.raw_unit_doc.RawUnitDoc.{RawUnitDoc}
use Rattle.unit_core.specs.declared.records.Record.{Record}
use Rattle.unit_core.specs.declared.records.Record.TheVariants as log
use Rattle.unit_core.specs.Queues.{unit_named}
use Rattle.log_models.specs.InForce.{models_after, models_in}
use Rattle.log_models.proofs.InForceLemmas.{models_in-push}
use Rattle.said_models.specs.Said.{said}
use Rattle.said_models.specs.OfLog.{text_of, model_of}
use Rattle.said_models.proofs.OfLogLemmas.{model_of-stay, model_of-first, model_of-known, model_of-unknown}
use Rattle.outbound_build.specs.declared.added.Added.{Added}
use Rattle.outbound_build.specs.Added.{adds_any}
use Rattle.outbound_build.specs.Statuses.{Tracked, nothing_tracked, tracked_of, tracked_with}
use Rattle.outbound_build.specs.Tables.{AreTablesOf as AreSent}
use Rattle.inbound_post.specs.declared.application_tables.ApplicationTables.{ApplicationTables}
use Rattle.inbound_post.specs.declared.prepared.DocPosting.{DocPosting}
use Rattle.inbound_post.specs.Prepared.{prepared}
use Rattle.inbound_post.specs.Application.{Application, arrived_all, counted, executed_if, no_application, past_of, with_unit}
use Rattle.inbound_post.proofs.ApplicationLemmas.{executed-prepared}
use Rattle.inbound_post.specs.Tables.{AreTablesOf as AreApplied}
use Rattle.document_state.specs.declared.document_tables.DocumentTables.{DocumentTables}
use Rattle.document_state.specs.declared.made.Made.{Made}
use Rattle.document_state.specs.declared.made.Made.TheVariants.{Nothing, Brought, Sent, Postings, Executed}
use Rattle.document_state.specs.OfLog.{sent_by, applied_by, added_behind}
use Rattle.document_state.specs.Made.{GoesWith, is_noted_alone}
use Rattle.document_state.specs.Tables.{AreTablesOf}
use Rattle.document_state.specs.steps.Applying.{AddsAs, MadeUnder, applied_under, is_plain, postings_under, renumbered_at, said_behind}
use Rattle.document_state.specs.steps.Between.{GoesUnder, IsBetween}
use Rattle.document_state.specs.SentLemmas.{sent-push}
use Rattle.document_state.proofs.PushLemmas.{added-nothing, applied-push}

-- ---- what was made

-- what goes with a record under the model before it goes with it as far as the application is concerned
goes-under : (records : List Record) (next : Record) (made : Made) → GoesUnder records next made
    → MadeUnder (model_of records) (applied_by records).system (counted (applied_by records).application) next made
goes-under records (log.Commit origin docs) (Sent added) goes = refl
goes-under records log.Dispatch (Sent added) goes = refl
goes-under records (log.Direct unit) (Postings postings) goes = goes
goes-under records (log.Execute tid) (Executed unit postings) goes = goes
goes-under records next Nothing goes = goes
goes-under records next made goes = absurd goes

plain-adds : (next : Record) → IsTrue (is_plain next) → adds_any next ≡ false
plain-adds (log.Commit origin docs) plain = absurd (cc)
plain-adds log.Dispatch plain = absurd (cc)
plain-adds _ plain = refl

alone-plain : (next : Record) → IsTrue (is_noted_alone next) → IsTrue (is_plain next)
alone-plain (log.Genesis system text) alone = absurd (cc)
alone-plain (log.Commit origin docs) alone = absurd (cc)
alone-plain log.Dispatch alone = absurd (cc)
alone-plain (log.Direct unit) alone = absurd (cc)
alone-plain (log.Execute tid) alone = absurd (cc)
alone-plain (log.Model text) alone = absurd (cc)
alone-plain _ alone = refl

alone-silent : (next : Record) → IsTrue (is_noted_alone next) → text_of next ≡ None
alone-silent (log.Genesis system text) alone = absurd (cc)
alone-silent (log.Model text) alone = absurd (cc)
alone-silent _ alone = refl

-- what was made says what the record adds
pub goes-adds : (records : List Record) (next : Record) (made : Made) (added : Added) → GoesWith records next made → AddsAs made added →
    added ≡ added_behind records next
goes-adds records (log.Commit origin docs) (Sent made) added goes adds = adds ∙ goes
goes-adds records log.Dispatch (Sent made) added goes adds = adds ∙ goes
goes-adds records (log.Direct unit) (Postings postings) added goes adds = adds ∙ sym (added-nothing records (log.Direct unit) refl)
goes-adds records (log.Execute tid) (Executed unit postings) added goes adds = adds ∙ sym (added-nothing records (log.Execute tid) refl)
goes-adds records (log.Genesis system text) (Brought model) added goes adds = adds ∙ sym (added-nothing records (log.Genesis system text) refl)
goes-adds records (log.Model text) (Brought model) added goes adds = adds ∙ sym (added-nothing records (log.Model text) refl)
goes-adds records next Nothing added goes adds = adds ∙ sym (added-nothing records next (plain-adds next (alone-plain next goes)))
goes-adds records next made added goes adds = absurd goes

-- so does what goes with it under the model before it
under-adds : (records : List Record) (next : Record) (made : Made) (added : Added) → GoesUnder records next made → AddsAs made added →
    added ≡ added_behind records next
under-adds records next Nothing added goes adds = adds ∙ sym (added-nothing records next (plain-adds next goes))
under-adds records next (Brought model) added goes adds = absurd goes
under-adds records next (Sent made) added goes adds = goes-adds records next (Sent made) added goes adds
under-adds records next (Postings postings) added goes adds = goes-adds records next (Postings postings) added goes adds
under-adds records next (Executed unit postings) added goes adds = goes-adds records next (Executed unit postings) added goes adds

-- a record is noted under the model before it
pub between-noted : (records : List Record) (next : Record) (made : Made) (before after : DocumentTables) (inbound : ApplicationTables) (added : Added)
    → AreTablesOf records before → GoesUnder records next made → after.has_begun ≡ before.has_begun → after.model ≡ before.model
    → AddsAs made added
    → ((application : Application) → AreApplied application before.inbound → AreApplied (counted application) inbound)
    → ((application : Application) (system : ℕ) → AreApplied application inbound
    → MadeUnder (option_map arc_value before.model) system application next made
    → AreApplied (applied_under (option_map arc_value before.model) system application next) after.inbound)
    → AreSent (tracked_with (sent_by records) next added) after.outbound → IsBetween records next after
between-noted records next made before after inbound added are goes begun model adds counts apply take =
    let past = applied_by records in
    let behind = sent_by records in
    record {
      begun = subst (λ b. IsTrue b ↔ (1 ≤ models_in records)) (sym begun) are.begun;
      model = ap (option_map arc_value) model ∙ are.model;
      sent = subst (λ (t : Tracked). AreSent t after.outbound)
          (ap (tracked_with behind next) (under-adds records next made added goes adds) ∙ sym (sent-push records next))
          take;
      applied = subst (λ (found : Option Lists). AreApplied (applied_under found past.system (counted past.application) next) after.inbound) are.model
          (apply (counted past.application) past.system (counts past.application are.applied)
          (subst (λ (found : Option Lists). MadeUnder found past.system (counted past.application) next made) (sym are.model)
          (goes-under records next made goes)));
    }

-- ---- the text of a record

-- a model goes with a record that has a text; it neither takes documents nor adds any
pub brought-text : (records : List Record) (next : Record) (model : _) → GoesWith records next (Brought model)
    → IsTrue (is_plain next) × ((text : List ℕ) × (text_of next ≡ Some text) × (option_map arc_value model ≡ said text))
brought-text records (log.Genesis system text) model goes = (refl, (text, refl, goes))
brought-text records (log.Model text) model goes = (refl, (text, refl, goes))
brought-text records _ model goes = absurd goes

-- what else goes with a record goes with it under the model before it, and the record has no text
pub goes-silent : (records : List Record) (next : Record) (made : Made) → ((model : _) → made ≡ Brought model → ⊥)
    → GoesWith records next made → GoesUnder records next made × (text_of next ≡ None)
goes-silent records (log.Commit origin docs) (Sent added) other goes = (goes, refl)
goes-silent records log.Dispatch (Sent added) other goes = (goes, refl)
goes-silent records (log.Direct unit) (Postings postings) other goes = (goes, refl)
goes-silent records (log.Execute tid) (Executed unit postings) other goes = (goes, refl)
goes-silent records next Nothing other goes = (alone-plain next goes, alone-silent next goes)
goes-silent records next (Brought model) other goes = absurd (other model refl)
goes-silent records next made other goes = absurd goes

-- a record without a text brings no model into force
silent-stays : (before after : Option Lists) (next : Record) (application : Application) → text_of next ≡ None →
    renumbered_at before after next application ≡ application
silent-stays before after (log.Model text) application silent = absurd (cc)
silent-stays before after _ application silent = refl

silent-counts : (count : ℕ) (next : Record) → text_of next ≡ None → models_after count next ≡ count
silent-counts count (log.Genesis system text) silent = absurd (cc)
silent-counts count (log.Model text) silent = absurd (cc)
silent-counts count _ silent = refl

pub tables-silent : (records : List Record) (next : Record) (tables : DocumentTables) → text_of next ≡ None → IsBetween records next tables
    → AreTablesOf (records ++ next ∷ []) tables
tables-silent records next tables silent is =
    let count : models_in (records ++ next ∷ []) ≡ models_in records = models_in-push records next ∙ silent-counts (models_in records) next silent in
    record {
      begun = subst (λ (n : ℕ). IsTrue tables.has_begun ↔ (1 ≤ n)) (sym count) is.begun;
      model = is.model ∙ sym (model_of-stay records next silent);
      sent = is.sent;
      applied = subst (λ (a : Application). AreApplied a tables.inbound)
          (sym (applied-push records next ∙ silent-stays (model_of records) (model_of (records ++ next ∷ [])) next
          (applied_under (model_of records) (applied_by records).system (counted (applied_by records).application) next) silent))
          is.applied;
    }

-- the model that a text brings into force
brought : (records : List Record) (next : Record) (text : List ℕ) (begun : Bool) → text_of next ≡ Some text → (IsTrue begun ↔ (1 ≤ models_in records))
    → said_behind begun (model_of records) text ≡ model_of (records ++ next ∷ [])
brought records next text false says begun = sym (model_of-first records next text says (none (models_in records) refl))
  where
    none : (count : ℕ) → models_in records ≡ count → models_in records ≡ 0
    none zero is = is
    none (suc last) is = absurd (let lies = begun.1 (omega (arith, is)) in cc)
brought records next text true says begun = of (model_of records) refl
  where
    of : (found : Option Lists) → model_of records ≡ found → option_and_then (λ model. said text) found ≡ model_of (records ++ next ∷ [])
    of None is = sym (model_of-unknown records next text says (begun.0 refl) is)
    of (Some model) is = sym (model_of-known records next text model says is)

-- a text comes into force
pub tables-brought : (records : List Record) (next : Record) (text : List ℕ) (before after : DocumentTables) → text_of next ≡ Some text
    → IsBetween records next before → after.has_begun ≡ true → after.outbound ≡ before.outbound
    → option_map arc_value after.model ≡ said_behind before.has_begun (option_map arc_value before.model) text
    → ((application : Application) → AreApplied application before.inbound
    → AreApplied (renumbered_at (option_map arc_value before.model) (option_map arc_value after.model) next application) after.inbound)
    → AreTablesOf (records ++ next ∷ []) after
tables-brought records next text before after says is begun outbound model renumbers =
    let now : option_map arc_value after.model ≡ model_of (records ++ next ∷ []) =
    model ∙ ap (λ found. said_behind before.has_begun found text) is.model ∙ brought records next text before.has_begun says is.begun in
    let counts : 1 ≤ models_in (records ++ next ∷ []) = let count = models_in-push records next in let more = text-counts
    (models_in records) next text says in omega (arith, count, more) in
    record {
      begun = (λ told. counts, λ told. subst IsTrue (sym begun) refl);
      model = now;
      sent = subst (AreSent (sent_by (records ++ next ∷ []))) (sym outbound) is.sent;
      applied = subst (λ (a : Application). AreApplied a after.inbound)
          (ap (λ (o : Option Lists). renumbered_at o (option_map arc_value after.model) next
          (applied_under (model_of records) (applied_by records).system (counted (applied_by records).application) next)) is.model
          ∙ ap (λ (o : Option Lists). renumbered_at (model_of records) o next
          (applied_under (model_of records) (applied_by records).system (counted (applied_by records).application) next)) now
          ∙ sym (applied-push records next))
          (renumbers (applied_under (model_of records) (applied_by records).system (counted (applied_by records).application) next) is.applied);
    }
  where
    text-counts : (count : ℕ) (next : Record) (text : List ℕ) → text_of next ≡ Some text → models_after count next ≡ suc count
    text-counts count (log.Genesis system text) other says = refl
    text-counts count (log.Model text) other says = refl
    text-counts count _ other says = absurd (cc)

-- ---- units that are executed

same_direct : (a b : AleUnit) → log.Direct a ≡ log.Direct b → a ≡ b
same_direct a b same = cc

-- a unit that is received and executed at once: of its documents becomes what was prepared
pub direct-applied : (found : Option Lists) (model : Lists) (system : ℕ) (next : Record) (unit inner : AleUnit) (docs : List RawUnitDoc)
    (postings : List DocPosting)
    (application : Application) (after : ApplicationTables) → found ≡ Some model → next ≡ log.Direct inner → next ≡ log.Direct unit → docs ≡ inner.docs
    → postings ≡ postings_under found system unit → AreApplied (arrived_all inner.sender docs postings (with_unit unit application)) after
    → AreApplied (applied_under found system application next) after
direct-applied found model system next unit inner docs postings application after here is given docs_are made applied =
    let equal = same_direct inner unit (sym is ∙ given) in
    let these : postings ≡ (prepared model system unit).postings = made ∙ ap (λ (f : Option Lists). postings_under f system unit) here in
    let told : AreApplied (arrived_all unit.sender unit.docs postings (with_unit unit application)) after =
    subst (λ (u : AleUnit). AreApplied (arrived_all u.sender u.docs postings (with_unit unit application)) after) equal
    (subst (λ ds. AreApplied (arrived_all inner.sender ds postings (with_unit unit application)) after) docs_are applied) in
    subst (λ (n : Record). AreApplied (applied_under found system application n) after) (sym given)
    (subst (λ (f : Option Lists). AreApplied (applied_under f system application (log.Direct unit)) after) (sym here)
    (subst (λ (a : Application). AreApplied a after) (sym (executed-prepared model system unit (with_unit unit application)))
    (subst (λ ps. AreApplied (arrived_all unit.sender unit.docs ps (with_unit unit application)) after) these told)))

-- a unit that was received is executed: of its documents becomes what was prepared
pub execute-applied : (found : Option Lists) (model : Lists) (system : ℕ) (tid : TidOf) (unit : AleUnit) (docs : List RawUnitDoc) (postings : List DocPosting)
    (application : Application) (after : ApplicationTables) → found ≡ Some model
    → ((lists : Lists) → found ≡ Some lists → unit_named tid application.received ≡ Some unit) → docs ≡ unit.docs
    → postings ≡ postings_under found system unit → AreApplied (arrived_all unit.sender docs postings application) after
    → AreApplied (applied_under found system application (log.Execute tid)) after
execute-applied found model system tid unit docs postings application after here named docs_are made applied =
    let these : postings ≡ (prepared model system unit).postings = made ∙ ap (λ (f : Option Lists). postings_under f system unit) here in
    subst (λ (f : Option Lists). AreApplied (applied_under f system application (log.Execute tid)) after) (sym here)
    (subst (λ (a : Application). AreApplied a after)
    (sym (ap (executed_if model system application) (named model here) ∙ executed-prepared model system unit application))
    (subst (λ ps. AreApplied (arrived_all unit.sender unit.docs ps application) after) these
    (subst (λ ds. AreApplied (arrived_all unit.sender ds postings application) after) docs_are applied)))

-- ---- no record

sent-nothing : sent_by [] ≡ nothing_tracked
unfolding tracked_of
sent-nothing = refl

applied-nothing : (applied_by []).application ≡ no_application
unfolding past_of
applied-nothing = refl

-- the tables of a log that has no record
pub tables-nothing : (tables : DocumentTables) → tables.has_begun ≡ false → tables.model ≡ None → AreSent nothing_tracked tables.outbound
    → AreApplied no_application tables.inbound → AreTablesOf [] tables
tables-nothing tables begun none sent applied = record {
  begun = (λ told. let lies : false ≡ true = sym begun ∙ told in absurd (cc), λ some. absurd (omega (arith, some)));
  model = ap (option_map arc_value) none;
  sent = subst (λ (t : Tracked). AreSent t tables.outbound) (sym sent-nothing) sent;
  applied = subst (λ (a : Application). AreApplied a tables.inbound) (sym applied-nothing) applied;
}
