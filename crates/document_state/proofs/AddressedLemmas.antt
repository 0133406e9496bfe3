-- What a legal log sends is addressed, and each of its documents is in one place.
use Rattle.std.specs.Prelude.{is_none, map, not, nat_lt, slice_get}
use Rattle.std.specs.Option.{option_map_or}
use Rattle.std.specs.List.{AllByRecursion, filter_map}
use Rattle.std.proofs.Common.{◌≡◌, ℕ, zero, suc, ◌<◌, ◌≤◌, Bool, true, false, Option, Some, None, List, [], ◌∷◌, ◌++◌, length, refl, sym, ap, subst, ◌∙◌, arith}
use Rattle.std.proofs.lemmas.Bool.{and_parts, eqb-true}
use Rattle.std.proofs.lemmas.Bool.Decides.{nat_tests}
use Rattle.std.proofs.lemmas.Option.{same_Some}
use Rattle.ale_base.proofs.ListLemmas.{AllByRecursion-append, AllByRecursion-at, AllByRecursion-of, AllByRecursion-weaker}
use Rattle.dist_model.specs.declared.lists.Lists.{Lists}
use Rattle.dist_model.specs.declared.system.System.{System}
use Rattle.dist_model.specs.Model.{HasSystem, IsModel, system_names}
use Rattle.unit_core.specs.declared.raw_unit_doc.RawUnitDoc.{RawUnitDoc}
use Rattle.unit_core.specs.declared.records.Record.{Record}
use Rattle.unit_core.specs.declared.records.Record.TheVariants as log
use Rattle.log_models.specs.InForce.{in_force, models_in}
use Rattle.model_growth.specs.Growth.{IsGrown, first_unkept, name_and_client}
use Rattle.model_growth.proofs.GrowthLemmas.{none_unkept}
use Rattle.said_models.specs.Said.{said}
use Rattle.said_models.specs.OfLog.{model_of, models_of, text_of}
use Rattle.said_models.proofs.OfLogLemmas.{model_of-known, model_of-stay, models_of-texts}
use Rattle.said_models.proofs.SaidLemmas.{said-kept}
use Rattle.outbound_build.specs.declared.added.Added.{Added}
use Rattle.outbound_build.specs.declared.added.OutUnit.{OutUnit}
use Rattle.outbound_build.specs.declared.added.Waiting.{Waiting}
use Rattle.outbound_build.specs.Added.{added_by, still_waiting, waits_of}
use Rattle.outbound_build.specs.Addressed.{AreAddressed, AreUnitsAddressed, IsAddressed, IsUnitAddressed}
use Rattle.outbound_build.specs.Committed.{IsLogOf, Past, past_of, past_with, units_of}
use Rattle.outbound_build.specs.Once.{IsEachOnce}
use Rattle.outbound_build.specs.Statuses.{Tracked, tracked_of}
use Rattle.outbound_build.proofs.AddressedLemmas.{added-addressed, added-made, after-addressed}
use Rattle.outbound_build.proofs.CarriedLemmas.{added-carried}
use Rattle.outbound_build.proofs.PlaceLemmas.{IsPlaced, each-once, placed-still, placed-with}
use Rattle.outbound_build.proofs.TrackedLemmas.{tracked-past}
use Rattle.trfc_protocol.specs.Legal.{IsLegal, may_follow}
use Rattle.document_state.specs.OfLog.{added_behind, sent_by}
use Rattle.document_state.specs.Allowed.{may_replace, waits_any}
use Rattle.document_state.specs.Meaning.{model_meaning}
use Rattle.document_state.specs.SentLemmas.{sent-push}
use Rattle.document_state.specs.LawfulLemmas.{allows-by, legal-keeps, said-replaced}
use Rattle.document_state.proofs.AddedLemmas.{adds-none, adds-under}
use Rattle.document_state.proofs.LegalLogLemmas.{sent-begun}

-- ---- models that keep the systems of others

names-of : (systems : List System) → map (λ one. one.0) (map name_and_client systems) ≡ system_names systems
names-of [] = refl
names-of (system ∷ systems) = ap (λ (names : List (List ℕ)). system.name ∷ names) (names-of systems)

module _ (old new : Lists) (grown : IsGrown old new) where
  same_names : system_names old.systems ≡ system_names new.systems
  same_names =
      sym (names-of old.systems) ∙ ap (λ (pairs : List (List ℕ × List ℕ)). map (λ one. one.0) pairs) grown.systems ∙ names-of new.systems

  has-grown : (name : List ℕ) (number : ℕ) → HasSystem old name number → HasSystem new name number
  has-grown name number has = record {
    place = has.place;
    counted = has.counted;
    named = ap (λ (names : List (List ℕ)). slice_get names has.place) (sym same_names) ∙ has.named;
  }

  document-grown : (sender receiver : ℕ) (document : RawUnitDoc) → IsAddressed old sender receiver document → IsAddressed new sender receiver document
  document-grown sender receiver document is = record {
    sends = has-grown _ sender is.sends;
    sends_as = is.sends_as;
    receives = has-grown _ receiver is.receives;
    receives_as = is.receives_as;
  }

  -- units that are addressed by a model are so by one that keeps it
  units-grown : (system : ℕ) (units : List OutUnit) → AreUnitsAddressed old system units → AreUnitsAddressed new system units
  units-grown system units all =
      AllByRecursion-weaker (λ (one : OutUnit). IsUnitAddressed old system one.unit) (λ (one : OutUnit). IsUnitAddressed new system one.unit) units
      (λ one is. record {
        sender = is.sender;
        docs = AllByRecursion-weaker (IsAddressed old system one.unit.receiver) (IsAddressed new system one.unit.receiver) one.unit.docs
            (document-grown system one.unit.receiver) is.docs;
      }) all

-- ---- the model in force

-- the model in force keeps the rules of models
pub model-kept : (records : List Record) (model : Lists) → model_of records ≡ Some model → IsModel model
model-kept records model is = at (models_in records) is
  where
    each : AllByRecursion IsModel (models_of records)
    each = models_of-texts IsModel records
        (AllByRecursion-of (λ (text : List ℕ). (one : Lists) → said text ≡ Some one → IsModel one) said-kept (filter_map text_of records))

    at : (count : ℕ) → in_force (models_of records) count ≡ Some model → IsModel model
    at zero none = absurd (cc)
    at (suc place) here = AllByRecursion-at IsModel (models_of records) place model each here

-- what is known behind a log: it is its system's; what waits, and its units, are addressed by the model in force; and each document is in
-- one place
record IsSentOf (system : ℕ) (records : List Record) : Type 0 where
  pub of : IsLogOf system records
  pub placed : IsPlaced (sent_by records).past
  pub waits : (model : Lists) → model_of records ≡ Some model → AreAddressed model system (sent_by records).past.outbox.waiting
  pub units : (model : Lists) → model_of records ≡ Some model → AreUnitsAddressed model system (sent_by records).past.units

-- the log with one more record has what it adds
sent-with : (P : Past → Type 0) (records : List Record) (next : Record) → P (past_with (sent_by records).past next (added_behind records next))
    → P (sent_by (records ++ next ∷ [])).past
sent-with P records next is = subst (λ (t : Tracked). P t.past) (sym (sent-push records next)) is

units-nil : (model : Lists) (system : ℕ) (units : List OutUnit) → AreUnitsAddressed model system units → AreUnitsAddressed model system (units ++ [])
units-nil model system units all = AllByRecursion-append (λ (one : OutUnit). IsUnitAddressed model system one.unit) units [] all tt

none-wait : (waiting : List Waiting) → not (nat_lt 0 (length waiting)) ≡ true → waiting ≡ []
none-wait [] none = refl
none-wait (one ∷ waiting) none =
    let less : 0 < length (one ∷ waiting) = omega arith in
    let is : nat_lt 0 (length (one ∷ waiting)) ≡ true = grind (arith, nat_tests, less) in
    let lies : not true ≡ true = subst (λ (b : Bool). not b ≡ true) is none in
    absurd (cc)

unkept : {A : Type 0} (found : Option A) → is_none found ≡ true → found ≡ None
unkept None none = refl
unkept (Some x) none = absurd (cc)

-- a model that a text says, which may replace another one, keeps it
pub replaced-grown : (old : Lists) (text : List ℕ) → may_replace old text ≡ true → (new : Lists) → said text ≡ Some new → IsGrown old new
replaced-grown old text may new says = of (said text) says may
  where
    of : (found : Option Lists) → found ≡ Some new → option_map_or (λ one. is_none (first_unkept old one)) found false ≡ true → IsGrown old new
    of None lies may = absurd (cc)
    of (Some other) same may =
        let equal = same_Some other new same in
        subst (IsGrown old) equal ((none_unkept old other).0 (unkept (first_unkept old other) may))

module _ (systems system : ℕ) where
  log-of : (records : List Record) (next : Record) → may_follow (model_meaning systems) system records next ≡ true → IsLogOf system records
      → IsLogOf system (records ++ next ∷ [])
  log-of [] (log.Genesis number text) may of = eqb-true number system may
  log-of [] _ may of = absurd (let lies = may in cc)
  log-of (log.Genesis number text ∷ rest) next may of = of
  log-of (_ ∷ rest) next may of = absurd of

  -- under the model in force
  module _ (records : List Record) (next : Record) (is : IsSentOf system records) (some : 1 ≤ length records) (model : Lists)
      (known : model_of records ≡ Some model) where
    kept : IsModel model
    kept = model-kept records model known

    abbrev past : Past
    past = (sent_by records).past

    own : past.system ≡ system
    own = sent-begun system records is.of some

    added : added_by model system past.outbox next ≡ added_behind records next
    added = adds-under records model system next known own

    more-placed : IsPlaced (past_with past next (added_behind records next))
    more-placed =
        subst (λ (more : Added). IsPlaced (past_with past next more)) added
        (placed-with model system past next (added_by model system past.outbox next)
        (added-carried model kept system past.outbox (suc past.outbox.units) next) (λ same. is.waits model known) is.placed)

    more-waits : AreAddressed model system (past_with past next (added_behind records next)).outbox.waiting
    more-waits =
        subst (λ (more : Added). AreAddressed model system (still_waiting next past.outbox.waiting ++ waits_of more.documents)) added
        (after-addressed model system next past.outbox.waiting (added_by model system past.outbox next).documents (is.waits model known)
        (added-made model kept system past.outbox next))

    more-units : AreUnitsAddressed model system (past.units ++ (added_behind records next).units)
    more-units =
        AllByRecursion-append (λ (one : OutUnit). IsUnitAddressed model system one.unit) past.units (added_behind records next).units
        (is.units model known)
        (subst (λ (more : Added). AreUnitsAddressed model system more.units) added
        (added-addressed model kept system past.outbox (suc past.outbox.units) next (λ same. is.waits model known)))

  -- a record without a text leaves the model in force
  sent-stay : (one : Record) (rest : List Record) (next : Record) → may_follow (model_meaning systems) system (one ∷ rest) next ≡ true
      → text_of next ≡ None
      → ((waiting : List Waiting) → model_of (one ∷ rest) ≡ None → still_waiting next waiting ≡ waiting)
      → IsSentOf system (one ∷ rest) → IsSentOf system ((one ∷ rest) ++ next ∷ [])
  sent-stay one rest next may silent stays is = record {
    of = log-of (one ∷ rest) next may is.of;
    placed = sent-with IsPlaced (one ∷ rest) next (by_model (model_of (one ∷ rest)) refl);
    waits = λ model found.
        sent-with (λ (p : Past). AreAddressed model system p.outbox.waiting) (one ∷ rest) next
        (more-waits (one ∷ rest) next is (omega arith) model (sym (model_of-stay (one ∷ rest) next silent) ∙ found));
    units = λ model found.
        sent-with (λ (p : Past). AreUnitsAddressed model system p.units) (one ∷ rest) next
        (more-units (one ∷ rest) next is (omega arith) model (sym (model_of-stay (one ∷ rest) next silent) ∙ found));
  }
    where
      by_model : (o : Option Lists) → model_of (one ∷ rest) ≡ o
          → IsPlaced (past_with (sent_by (one ∷ rest)).past next (added_behind (one ∷ rest) next))
      by_model None none =
          subst (λ (more : Added). IsPlaced (past_with (sent_by (one ∷ rest)).past next more)) (sym (adds-none (one ∷ rest) next none))
          (placed-still (sent_by (one ∷ rest)).past next (stays (sent_by (one ∷ rest)).past.outbox.waiting none) is.placed)
      by_model (Some model) known = more-placed (one ∷ rest) next is (omega arith) model known

  -- another model comes into force where none waits
  sent-model : (one : Record) (rest : List Record) (text : List ℕ) → may_follow (model_meaning systems) system (one ∷ rest) (log.Model text) ≡ true
      → IsSentOf system (one ∷ rest) → IsSentOf system ((one ∷ rest) ++ log.Model text ∷ [])
  sent-model one rest text may is =
      let records = one ∷ rest in
      let by = allows-by systems records (log.Model text) may in
      let parts = and_parts (not (waits_any records)) (may_replace by.0 text) by.3 in
      let told = said-replaced systems by.0 text by.2 parts.1 in
      let bare = none-wait (sent_by records).past.outbox.waiting parts.0 in
      let adds = adds-under records by.0 system (log.Model text) by.1 (sent-begun system records is.of (omega arith)) in
      let known : model_of (records ++ log.Model text ∷ []) ≡ Some told.0
      = model_of-known records (log.Model text) text by.0 refl by.1 ∙ told.1 in
      record {
        of = log-of records (log.Model text) may is.of;
        placed = sent-with IsPlaced records (log.Model text) (more-placed records (log.Model text) is (omega arith) by.0 by.1);
        waits = λ model found.
            sent-with (λ (p : Past). AreAddressed model system p.outbox.waiting) records (log.Model text)
            (subst (λ (more : Added). AreAddressed model system ((sent_by records).past.outbox.waiting ++ waits_of more.documents)) adds
            (subst (λ (ws : List Waiting). AreAddressed model system (ws ++ [])) (sym bare) tt));
        units = λ model found.
            sent-with (λ (p : Past). AreUnitsAddressed model system p.units) records (log.Model text)
            (subst (λ (more : Added). AreUnitsAddressed model system ((sent_by records).past.units ++ more.units)) adds
            (units-nil model system (sent_by records).past.units
            (units-grown by.0 model (replaced-grown by.0 text parts.1 model
            (told.1 ∙ sym known ∙ found)) system (sent_by records).past.units (is.units by.0 by.1))));
      }

  sent-first : (next : Record) → may_follow (model_meaning systems) system [] next ≡ true → IsSentOf system [] → IsSentOf system (next ∷ [])
  unfolding tracked_of
  sent-first (log.Genesis number text) may is = record {
    of = log-of [] (log.Genesis number text) may tt;
    placed = sent-with IsPlaced [] (log.Genesis number text)
        (subst (λ (more : Added). IsPlaced (past_with (sent_by []).past (log.Genesis number text) more)) (sym (adds-none [] (log.Genesis number text) refl))
        (placed-still (sent_by []).past (log.Genesis number text) refl is.placed));
    waits = λ model found. sent-with (λ (p : Past). AreAddressed model system p.outbox.waiting) [] (log.Genesis number text) (bare model);
    units = λ model found. sent-with (λ (p : Past). AreUnitsAddressed model system p.units) [] (log.Genesis number text) (none model);
  }
    where
      bare : (model : Lists)
          → AreAddressed model system (past_with (sent_by []).past (log.Genesis number text) (added_behind [] (log.Genesis number text))).outbox.waiting
      bare model = tt

      none : (model : Lists)
          → AreUnitsAddressed model system (past_with (sent_by []).past (log.Genesis number text) (added_behind [] (log.Genesis number text))).units
      none model = tt
  sent-first _ may is = absurd (let lies = may in cc)

  sent-next : (records : List Record) (next : Record) → may_follow (model_meaning systems) system records next ≡ true → IsSentOf system records
      → IsSentOf system (records ++ next ∷ [])
  sent-next [] next may is = sent-first next may is
  sent-next (one ∷ rest) (log.Genesis number text) may is = absurd (let lies = may in cc)
  sent-next (one ∷ rest) (log.Model text) may is = sent-model one rest text may is
  sent-next (one ∷ rest) log.Dispatch may is =
      sent-stay one rest log.Dispatch may refl
      (λ waiting none.
      let by = allows-by systems (one ∷ rest) log.Dispatch may in
      let lies : None ≡ Some by.0 = sym none ∙ by.1 in
      absurd (cc)) is
  sent-next (one ∷ rest) next may is = sent-stay one rest next may refl (λ waiting none. refl) is

  nothing-sent : IsSentOf system []
  unfolding tracked_of
  nothing-sent = record { of = tt; placed = record { same = λ number. refl }; waits = λ model found. tt; units = λ model found. tt }

  module _ (records : List Record) (legal : IsLegal (model_meaning systems) system records) where
    -- what is known behind a legal log
    legal-sent : IsSentOf system records
    legal-sent = legal-keeps (model_meaning systems) system (IsSentOf system) nothing-sent sent-next records legal

    -- what waits behind a legal log is addressed by the model in force
    pub legal-waits : (model : Lists) → model_of records ≡ Some model → AreAddressed model system (sent_by records).past.outbox.waiting
    legal-waits = legal-sent.waits

    -- each unit of a legal log is addressed by the model in force
    pub legal-addressed : (model : Lists) → model_of records ≡ Some model → AreUnitsAddressed model system (units_of (models_of records) records)
    legal-addressed model known =
        subst (λ (p : Past). AreUnitsAddressed model system p.units) (tracked-past (models_of records) records) (legal-sent.units model known)

    -- each document of a legal log is in one place: in one unit, among what waits, or among what was refused
    pub legal-once : IsEachOnce (past_of (models_of records) records)
    legal-once = each-once (models_of records) records (subst IsPlaced (tracked-past (models_of records) records) legal-sent.placed)
