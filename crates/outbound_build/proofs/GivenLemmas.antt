-- Which records of their log gave the statuses of outbound documents.
use Rattle.std.specs.Prelude.{◌==◌, Contains, if◌then◌else◌}
use Rattle.std.specs.List.{AllByRecursion, flat_map}
use Rattle.std.specs.Option.{option_map_or}
use Rattle.std.proofs.Common.{◌≡◌, ℕ, suc, Bool, true, false, Option, Some, None, List, [], ◌∷◌, ◌++◌, length, refl, ap, ◌∙◌}
use Rattle.std.proofs.Common.{arith, take}
use Rattle.std.proofs.lemmas.List.{length_push}
use Rattle.ale_base.specs.declared.doc_num.DocNum.{DocNum}
use Rattle.ale_base.proofs.ListLemmas.{AllByRecursion-append, AllByRecursion-flat_map, AllByRecursion-of}
use Rattle.ale_base.proofs.MemberLemmas.{Contains-here, Contains-there}
use Rattle.dist_model.specs.declared.lists.Lists.{Lists}
use Rattle.unit_core.specs.declared.records.Record.{Record}
use Rattle.unit_core.specs.declared.records.Record.TheVariants as log
use Rattle.log_models.specs.InForce.{in_force}
use Rattle.status_log.specs.declared.status.Status.{Status}
use Rattle.status_log.specs.Statuses.{given_by, plain}
use Rattle.status_log.specs.Given.{AreGivenIn, up_to}
use Rattle.status_log.proofs.GivenLemmas.{Gives, from_front, given-log, stood-log}
use Rattle.outbound_build.specs.declared.added.Fate.{Fate}
use Rattle.outbound_build.specs.declared.added.Fate.TheVariants.{Sent, Waits, Refused}
use Rattle.outbound_build.specs.declared.added.OutDocument.{OutDocument}
use Rattle.outbound_build.specs.declared.added.OutUnit.{OutUnit}
use Rattle.outbound_build.specs.Added.{added_by}
use Rattle.outbound_build.specs.Committed.{Past, adds, no_more}
use Rattle.outbound_build.specs.Statuses.{Tracked, carried_by, carried_in, codes_of, gets, if_of, made_for, made_statuses, nothing_tracked, passed_for}
use Rattle.outbound_build.specs.Statuses.{tracked_of}
use Rattle.outbound_build.proofs.TrackedLemmas.{tracked_of-push}

-- the code of a status is among these
abbrev May : List ℕ → Status → Type 0
May codes status = Contains codes status.code

if_may : (codes : List ℕ) (b : Bool) (statuses : List Status) → AllByRecursion (May codes) statuses
    → AllByRecursion (May codes) (if b then statuses else [])
if_may codes true statuses all = all
if_may codes false statuses all = tt

first_may : (fate : Fate) → AllByRecursion (May (1 ∷ 30 ∷ 29 ∷ 3 ∷ [])) (made_statuses fate)
first_may Sent = (
  Contains-here 1 (30 ∷ 29 ∷ 3 ∷ []),
  (
    Contains-there 1 (30 ∷ 29 ∷ 3 ∷ []) 30 (Contains-here 30 (29 ∷ 3 ∷ [])),
    (Contains-there 1 (30 ∷ 29 ∷ 3 ∷ []) 3 (Contains-there 30 (29 ∷ 3 ∷ []) 3 (Contains-there 29 (3 ∷ []) 3 (Contains-here 3 []))), tt),
  ),
)
first_may Waits = (Contains-here 1 (30 ∷ 29 ∷ 3 ∷ []), (Contains-there 1 (30 ∷ 29 ∷ 3 ∷ []) 30 (Contains-here 30 (29 ∷ 3 ∷ [])), tt))
first_may (Refused fault) = (
  Contains-here 1 (30 ∷ 29 ∷ 3 ∷ []),
  (Contains-there 1 (30 ∷ 29 ∷ 3 ∷ []) 29 (Contains-there 30 (29 ∷ 3 ∷ []) 29 (Contains-here 29 (3 ∷ []))), tt),
)

made_may : (documents : List OutDocument) (doc : ℕ) → AllByRecursion (May (1 ∷ 30 ∷ 29 ∷ 3 ∷ [])) (made_for documents doc)
made_may documents doc =
    (AllByRecursion-flat_map (May (1 ∷ 30 ∷ 29 ∷ 3 ∷ [])) (λ (one : OutDocument). if_of doc one.number.0 (made_statuses one.fate)) documents).0
    (AllByRecursion-of (λ (one : OutDocument). AllByRecursion (May (1 ∷ 30 ∷ 29 ∷ 3 ∷ [])) (if_of doc one.number.0 (made_statuses one.fate)))
    (λ one. if_may (1 ∷ 30 ∷ 29 ∷ 3 ∷ []) (doc == one.number.0) (made_statuses one.fate) (first_may one.fate)) documents)

passed_may : (code : ℕ) (numbers : List DocNum) (doc : ℕ) → AllByRecursion (May (code ∷ [])) (passed_for (plain code) numbers doc)
passed_may code numbers doc =
    (AllByRecursion-flat_map (May (code ∷ [])) (λ (number : DocNum). if_of doc number.0 (plain code ∷ [])) numbers).0
    (AllByRecursion-of (λ (number : DocNum). AllByRecursion (May (code ∷ [])) (if_of doc number.0 (plain code ∷ [])))
    (λ number. if_may (code ∷ []) (doc == number.0) (plain code ∷ []) (Contains-here code [], tt)) numbers)

packed_may : (units : List OutUnit) (doc : ℕ) → AllByRecursion (May (3 ∷ [])) (flat_map (λ one. passed_for (plain 3) one.documents doc) units)
packed_may units doc =
    (AllByRecursion-flat_map (May (3 ∷ [])) (λ (one : OutUnit). passed_for (plain 3) one.documents doc) units).0
    (AllByRecursion-of (λ (one : OutUnit). AllByRecursion (May (3 ∷ [])) (passed_for (plain 3) one.documents doc))
    (λ one. passed_may 3 one.documents doc) units)

-- a record gives what it may, under a model or none
under_may : (found : Option Lists) (past : Past) (next : Record) (carried : List (List DocNum)) (doc : ℕ)
    → AllByRecursion (May (codes_of next)) (gets carried (option_map_or (λ model. added_by model past.system past.outbox next) found no_more) next doc)
under_may None past (log.Commit origin docs) carried doc = tt
under_may (Some model) past (log.Commit origin docs) carried doc =
    let documents = (added_by model past.system past.outbox (log.Commit origin docs)).documents in
    AllByRecursion-append (May (1 ∷ 30 ∷ 29 ∷ 3 ∷ [])) (made_for documents doc) [] (made_may documents doc) tt
under_may None past log.Dispatch carried doc = tt
under_may (Some model) past log.Dispatch carried doc = packed_may (added_by model past.system past.outbox log.Dispatch).units doc
under_may None past (log.Done tid) carried doc = passed_may 12 (carried_by carried tid.unit) doc
under_may (Some model) past (log.Done tid) carried doc = passed_may 12 (carried_by carried tid.unit) doc
under_may None past _ carried doc = tt
under_may (Some model) past _ carried doc = tt

tracked-begun : (models : List Lists) → tracked_of models [] ≡ nothing_tracked
unfolding tracked_of
tracked-begun models = refl

-- as many records are counted as the log has
pub tracked-records : (models : List Lists) (records : List Record) → (tracked_of models records).records ≡ length records
tracked-records models records = from_front (λ (so_far : List Record). (tracked_of models so_far).records ≡ length so_far) step [] records
    (ap (λ (tracked : Tracked). tracked.records) (tracked-begun models))
  where
    step : (so_far : List Record) (next : Record) → (tracked_of models so_far).records ≡ length so_far
        → (tracked_of models (so_far ++ next ∷ [])).records ≡ length (so_far ++ next ∷ [])
    step so_far next count =
        let counted : (tracked_of models (so_far ++ next ∷ [])).records ≡ suc (tracked_of models so_far).records =
        ap (λ (tracked : Tracked). tracked.records) (tracked_of-push models so_far next) in
        omega (arith, counted, count, length_push so_far next)

-- a document has no statuses before the first record
tracked-nothing : (models : List Lists) (doc : ℕ) → (tracked_of models []).statuses doc ≡ []
tracked-nothing models doc = ap (λ (tracked : Tracked). tracked.statuses doc) (tracked-begun models)

-- and each record gives it what it may, by its number
tracked-gives : (models : List Lists) (doc : ℕ) (records : List Record) (next : Record)
    → Gives (codes_of next) (suc (length records)) ((tracked_of models records).statuses doc) ((tracked_of models (records ++ next ∷ [])).statuses doc)
tracked-gives models doc records next =
    let tracked = tracked_of models records in
    let more = gets (carried_in tracked.past.units) (adds models tracked.past next) next doc in
    record {
      more = more;
      behind = ap (λ (after : Tracked). after.statuses doc) (tracked_of-push models records next)
          ∙ ap (λ (count : ℕ). tracked.statuses doc ++ given_by (suc count) more) (tracked-records models records);
      may = under_may (in_force models tracked.past.models) tracked.past next (carried_in tracked.past.units) doc;
    }

-- the statuses of a document are in the order of the records of the log, and each is of a record that may give it
pub tracked-given : (models : List Lists) (records : List Record) (doc : ℕ) → AreGivenIn codes_of records ((tracked_of models records).statuses doc)
tracked-given models records doc =
    given-log codes_of (λ (so_far : List Record). (tracked_of models so_far).statuses doc) (tracked-nothing models doc) (tracked-gives models doc) records

-- what the first records gave is what was there after them
pub tracked-stood : (models : List Lists) (records : List Record) (doc count : ℕ)
    → up_to count ((tracked_of models records).statuses doc) ≡ (tracked_of models (take count records)).statuses doc
tracked-stood models records doc count =
    stood-log codes_of (λ (so_far : List Record). (tracked_of models so_far).statuses doc) (tracked-nothing models doc) (tracked-gives models doc) records count
