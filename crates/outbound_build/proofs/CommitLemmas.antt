-- The units of a whole log, as they are computed record by record.
use Rattle.std.specs.Prelude.{fold, nat_eq, ◌&&◌}
use Rattle.std.specs.List.{AllByRecursion, flat_map}
use Rattle.std.specs.Option.{option_map_or}
use Rattle.std.proofs.Common.{◌≡◌, ◌⊎◌, inl, inr, ℕ, suc, ◌+◌, ◌<◌, ◌≤◌, Option, Some, None, List, [], ◌∷◌, ◌++◌, length, take, false, refl, ap, sym, ◌∙◌}
use Rattle.std.proofs.Common.{subst, arith, Bool, length-append, get_or}
use Rattle.std.proofs.lemmas.List.{take_more, map-append}
use Rattle.std.proofs.lemmas.Bool.Decides.{leb_tells}
use Rattle.std.proofs.lemmas.Bool.{cond-false, eqb-true, false_from_ne_true}
use Rattle.ale_base.proofs.ListLemmas.{AllByRecursion-weaker}
use Rattle.dist_model.specs.declared.lists.Lists.{Lists}
use Rattle.dist_model.specs.declared.row.Row.{Row}
use Rattle.dist_model.specs.Model.{IsModel, goes_from, places_from, receivers_of}
use Rattle.dist_model.specs.Row.{IsRow}
use Rattle.unit_core.specs.declared.ale_unit.AleUnit.{AleUnit}
use Rattle.unit_core.specs.declared.raw_unit_doc.RawUnitDoc.{RawUnitDoc}
use Rattle.unit_core.specs.declared.records.Record.{Record}
use Rattle.unit_core.specs.declared.records.Record.TheVariants.{Commit, Dispatch, Genesis, Model}
use Rattle.log_models.specs.InForce.{models_after, system_after}
use Rattle.outbound_build.specs.declared.added.Added.{Added}
use Rattle.outbound_build.specs.declared.added.OutUnit.{OutUnit}
use Rattle.outbound_build.specs.declared.batch.Batch.{Batch}
use Rattle.outbound_build.specs.declared.committing.Behind.{Behind}
use Rattle.outbound_build.specs.declared.outbox.Outbox.{Outbox}
use Rattle.outbound_build.specs.Added.{added_by, after, batch_of, master_of, no_batch, numbered, packed_for, rows_of, sent_of, units_with, with_master}
use Rattle.outbound_build.specs.Added.{with_row, with_rows, Master}
use Rattle.outbound_build.specs.Committed.{Past, IsFirstAbove, adds, no_more, past_after, past_of, units_behind, units_of}
use Rattle.outbound_build.specs.steps.Behind.{begun, kept_of, more_of, with_more}
use Rattle.outbound_build.proofs.NumberLemmas.{length-numbered}
use Rattle.outbound_build.proofs.LogLemmas.{counted, past_of-nothing, past_of-push}

-- as many units as its parcels make
pub added-count : (model : Lists) (system : ℕ) (outbox : Outbox) (next : Record)
    → units_behind outbox (added_by model system outbox next) ≡ units_with model system outbox next
added-count model system outbox next = ap (λ (n : ℕ). outbox.units + n) (length-numbered system (suc outbox.units) (batch_of model system outbox next).parcels)

-- what is kept behind no records, and behind one more
pub kept-begun : (models : List Lists) → begun ≡ kept_of (past_of models [])
kept-begun models = ap kept_of (sym (past_of-nothing models))

pub kept-after : (models : List Lists) (past : Past) (next : Record)
    → with_more (kept_of past) next (more_of models (kept_of past) next) ≡ kept_of (past_after models past next)
kept-after models past next =
    let more = adds models past next in
    ap (λ (units : List AleUnit). record {
      models = models_after past.models next;
      system = system_after past.models past.system next;
      outbox = after next more past.outbox;
      units = units;
    }) (sym (map-append (λ (one : OutUnit). one.unit) past.units more.units))

-- the log up to one more record
pub past-next : (models : List Lists) (log : List Record) (i : ℕ) (next : Record) → next ≡ get_or log i next → i < length log
    → past_of models (take (i + 1) log) ≡ past_after models (past_of models (take i log)) next
past-next models log i next is within =
    ap (past_of models) (take_more log i next within ∙ ap (λ (r : Record). take i log ++ r ∷ []) (sym is)) ∙ past_of-push models (take i log) next

-- what is kept behind it
pub kept-next : (models : List Lists) (log : List Record) (i : ℕ) (next : Record) (behind later : Behind) (more : Added) → next ≡ get_or log i next
    → i < length log
    → behind ≡ kept_of (past_of models (take i log)) → more ≡ more_of models behind next → later ≡ with_more behind next more
    → later ≡ kept_of (past_of models (take (i + 1) log))
kept-next models log i next behind later more is within kept adds_this taken =
    taken ∙ ap (with_more behind next) adds_this ∙ ap (λ (b : Behind). with_more b next (more_of models b next)) kept
    ∙ kept-after models (past_of models (take i log)) next ∙ ap kept_of (sym (past-next models log i next is within))

-- how many units are behind it
pub units-next : (models : List Lists) (log : List Record) (i : ℕ) (next : Record) (behind : Behind) → next ≡ get_or log i next → i < length log
    → behind ≡ kept_of (past_of models (take i log)) → length (units_of models (take (i + 1) log)) ≡ units_behind behind.outbox (more_of models behind next)
units-next models log i next behind is within kept =
    let past = past_of models (take i log) in
    ap (λ (p : Past). length p.units) (past-next models log i next is within)
    ∙ length-append past.units (adds models past next).units
    ∙ ap (λ (n : ℕ). n + length (adds models past next).units) (sym (counted models (take i log)).units)
    ∙ ap (λ (b : Behind). units_behind b.outbox (more_of models b next)) (sym kept)

-- the units of each beginning of a log are few
abbrev pub AreFew : List Lists → List Record → ℕ → Type 0
AreFew models log i = (fewer : ℕ) → fewer ≤ i → length (units_of models (take fewer log)) ≤ 65536

-- there are none at first
pub few-nothing : (models : List Lists) (log : List Record) → AreFew models log 0
few-nothing models log fewer less =
    let none : fewer ≡ 0 = omega arith in
    let bare : length (units_of models (take fewer log)) ≡ 0 = ap (λ (k : ℕ). length (units_of models (take k log))) none
    ∙ ap (λ (p : Past). length p.units) (past_of-nothing models) in
    omega arith

pub few-next : (models : List Lists) (log : List Record) (i : ℕ) → AreFew models log i → length (units_of models (take (i + 1) log)) ≤ 65536
    → AreFew models log (i + 1)
few-next models log i few last fewer less = elim (leb_tells fewer i) [
  | inl (is, within) ↦ few fewer within
  | inr (is, over) ↦ let same : i + 1 ≡ fewer = omega arith in subst (λ (k : ℕ). length (units_of models (take k log)) ≤ 65536) same last
]

places-none : {A : Type 0} (test : A → Bool) (place : ℕ) (xs : List A) → AllByRecursion (λ x. test x ≡ false) xs → places_from test place xs ≡ []
places-none test place [] none = refl
places-none test place (x ∷ xs) none = cond-false (test x) (place ∷ places_from test (suc place) xs) (places_from test (suc place) xs) none.0
    ∙ places-none test (suc place) xs none.1

fold-same : {A B : Type 0} (f : B → A → B) (b : B) (xs : List A) → ((x : A) → f b x ≡ b) → fold f b xs ≡ b
fold-same f b [] same = refl
fold-same f b (x ∷ xs) same = ap (λ c. fold f c xs) (same x) ∙ fold-same f b xs same

-- a number that no system has
abbrev pub IsNoSystem : ℕ → Type 0
IsNoSystem system = (system ≡ 0) ⊎ (16 < system)

other_sender : (model : Lists) (system : ℕ) (row : Row) → IsModel model → IsNoSystem system
    → IsRow (length model.systems) (length model.messages) model.definitions model.filters row
    → nat_eq system row.sender ≡ false
other_sender model system row kept none is =
    false_from_ne_true (nat_eq system row.sender) (λ same. let here = eqb-true system row.sender same in apart none here)
  where
    apart : IsNoSystem system → system ≡ row.sender → ⊥
    apart (inl zeroth) here = omega (arith, is.way.ends.sender_from)
    apart (inr over) here = omega (arith, is.way.ends.sender_to, kept.systems.few)

-- no row of a model is of such a number
pub no_rows : (model : Lists) (system : ℕ) → IsModel model → IsNoSystem system → rows_of system model ≡ []
no_rows model system kept none =
    places-none (λ row. nat_eq system row.sender) 0 model.rows
    (AllByRecursion-weaker (IsRow (length model.systems) (length model.messages) model.definitions model.filters) (λ row. nat_eq system row.sender ≡ false)
    model.rows
    (λ row is. other_sender model system row kept none is) kept.rows.each)

pub no_receivers : (model : Lists) (system message : ℕ) → IsModel model → IsNoSystem system → receivers_of system message model ≡ []
no_receivers model system message kept none =
    places-none (goes_from system message) 0 model.rows
    (AllByRecursion-weaker (IsRow (length model.systems) (length model.messages) model.definitions model.filters) (λ row. goes_from system message row ≡ false)
    model.rows
    (λ row is. ap (λ b. b && nat_eq message row.message) (other_sender model system row kept none is)) kept.rows.each)

-- and so nothing is sent from it
pub none-sent : (model : Lists) (system before : ℕ) (docs : List RawUnitDoc) → IsModel model → IsNoSystem system → sent_of model system before docs ≡ no_batch
none-sent model system before docs kept none = fold-same (with_master model system before) no_batch docs (λ doc. of_master doc (master_of model doc))
  where
    of_master : (doc : RawUnitDoc) (o : Option Master) → option_map_or (with_rows model system before no_batch) o no_batch ≡ no_batch
    of_master doc None = refl
    of_master doc (Some master) = ap (fold (with_row model before master.document) no_batch) (no_receivers model system master.message kept none)

pub no-system : (model : Lists) (system : ℕ) (outbox : Outbox) (next : Record) → IsModel model → IsNoSystem system → added_by model system outbox next ≡ no_more
no-system model system outbox (Commit origin docs) kept none =
    ap (λ (batch : Batch). record { documents = batch.documents; units = numbered system (suc outbox.units) batch.parcels })
    (none-sent model system outbox.documents docs kept none)
no-system model system outbox Dispatch kept none =
    ap (λ (rows : List ℕ). record { documents = []; units = numbered system (suc outbox.units) (flat_map (packed_for model outbox.waiting) rows) })
    (no_rows model system kept none)
no-system model system outbox _ kept none = refl

-- models are as many as records at most
pub models-next : (models : ℕ) (next : Record) → models_after models next ≤ models + 1
models-next models (Genesis system text) = omega arith
models-next models (Model text) = omega arith
models-next models _ = omega arith

-- the outbox counts few units
pub few-counted : (models : List Lists) (log : List Record) (i : ℕ) (behind : Behind) → behind ≡ kept_of (past_of models (take i log)) → AreFew models log i
    → behind.outbox.units ≤ 65536
few-counted models log i behind kept few =
    let same : behind.outbox.units ≡ (past_of models (take i log)).outbox.units = ap (λ (b : Behind). b.outbox.units) kept in
    omega (arith, same, (counted models (take i log)).units, few i (omega arith))

-- the first count above what is allowed
pub first-above : (models : List Lists) (log : List Record) (i : ℕ) (next : Record) (behind : Behind) (count : ℕ) → next ≡ get_or log i next → i < length log
    → behind ≡ kept_of (past_of models (take i log)) → AreFew models log i → count ≡ units_behind behind.outbox (more_of models behind next) → 65536 < count
    → IsFirstAbove models log count
first-above models log i next behind count is within kept few counts above = record {
  records = i + 1;
  within = omega arith;
  units = units-next models log i next behind is within kept ∙ sym counts;
  above = above;
  before = λ fewer less. few fewer (omega arith);
}
