-- The rules by models are lawful.
use Rattle.std.specs.Prelude.{slice_get, slice_index_or, map, is_none}
use Rattle.std.specs.List.{AllByRecursion, filter_map}
use Rattle.std.specs.Option.{option_map_or}
use Rattle.std.proofs.Common.{◌≡◌, ◌⊎◌, not, ℕ, zero, suc, ◌+◌, ◌≤◌, ◌<◌, ◌==◌, ◌&&◌, true, false, inl, inr, Option, Some, None, List, [], ◌∷◌, ◌++◌, length}
use Rattle.std.proofs.Common.{refl, sym, ap, subst, ◌∙◌, arith, length-append, append_assoc}
use Rattle.std.proofs.lemmas.Bool.{cases_Bool, and_parts, eqb-true, eqb-false, leb-true}
use Rattle.std.proofs.lemmas.Option.{same_Some}
use Rattle.std.proofs.lemmas.List.{append-nil, length-map, map-append}
use Rattle.ale_base.specs.declared.tid.TheConstants.Tid.{MAX_UNIT}
use Rattle.ale_base.specs.Prefix.{IsPrefix}
use Rattle.ale_base.proofs.ListLemmas.{AllByRecursion-at, slice_get-within}
use Rattle.ale_base.proofs.MemberLemmas.{filter_map-None, filter_map-Some}
use Rattle.ale_base.proofs.SnocLemmas.{AllByRecursion-snoc}
use Rattle.dist_model.specs.declared.lists.Lists.{Lists}
use Rattle.model_growth.specs.Growth.{first_unkept, name_and_client}
use Rattle.model_growth.proofs.GrowthLemmas.{none_unkept}
use Rattle.unit_core.specs.declared.ale_unit.AleUnit.{AleUnit}
use Rattle.unit_core.specs.declared.records.Record.{Record}
use Rattle.unit_core.specs.declared.records.Record.TheVariants as log
use Rattle.said_models.specs.Said.{said}
use Rattle.said_models.specs.OfLog.{text_of, models_of, model_of}
use Rattle.said_models.proofs.OfLogLemmas.{of-grown, models_of-texts, model_of-first, model_of-stay}
use Rattle.said_models.proofs.SaidLemmas.{said-kept}
use Rattle.outbound_build.specs.declared.added.OutUnit.{OutUnit}
use Rattle.outbound_build.specs.Added.{adds_any}
use Rattle.outbound_build.specs.Committed.{IsLogOf, committed_of, past_of, units_of, Past}
use Rattle.outbound_build.specs.Units.{IsModelOf, IsSendable}
use Rattle.outbound_build.proofs.LogLemmas.{committed-grows, past_of-before, units-stay}
use Rattle.outbound_build.proofs.UnitLemmas.{unit-at, units-sendable}
use Rattle.outbound_build.specs.Statuses.{Tracked}
use Rattle.outbound_build.proofs.TrackedLemmas.{tracked-past}
use Rattle.inbound_post.specs.Prepared.{offers}
use Rattle.application_rules.specs.Commits.{may_commit}
use Rattle.document_state.specs.OfLog.{sent_by, applied_by, added_behind}
use Rattle.document_state.specs.SentLemmas.{sent-push}
use Rattle.trfc_protocol.specs.Legal.{AllFollow, IsLegal, IsLawful, IsUnitAt, is_commit, may_change_offers, may_follow, may_follow_others}
use Rattle.trfc_protocol.specs.Meaning.{Meaning}
use Rattle.document_state.specs.Allowed.{allowed, allowed_under, has_room, may_replace, waits_any}
use Rattle.document_state.specs.Meaning.{model_meaning}

-- ---- logs that are legal

-- what a log has, and each record that may follow keeps, it has with records that follow legally
pub follows-keep : (rules : Meaning) (system : ℕ) (P : List Record → Type 0)
    → ((before : List Record) (next : Record) → may_follow rules system before next ≡ true → P before → P (before ++ next ∷ []))
    → (before records : List Record) → P before → AllFollow rules system before records → P (before ++ records)
follows-keep rules system P step before [] is legal = subst P (sym (append-nil before)) is
follows-keep rules system P step before (next ∷ records) is legal =
    subst P (append_assoc before (next ∷ []) records)
    (follows-keep rules system P step (before ++ next ∷ []) records (step before next legal.0 is) legal.1)

-- what the empty log has, and each record that may follow keeps, every legal log has
pub legal-keeps : (rules : Meaning) (system : ℕ) (P : List Record → Type 0) → P []
    → ((before : List Record) (next : Record) → may_follow rules system before next ≡ true → P before → P (before ++ next ∷ []))
    → (records : List Record) → IsLegal rules system records → P records
legal-keeps rules system P start step records legal = follows-keep rules system P step [] records start legal

-- a legal log is empty, or begins with the Genesis of its system
pub legal-of : (rules : Meaning) (system : ℕ) (records : List Record) → IsLegal rules system records → IsLogOf system records
legal-of rules system [] legal = tt
legal-of rules system (log.Genesis number text ∷ records) legal = eqb-true number system legal.0
legal-of rules system (log.Commit origin docs ∷ records) legal = absurd (let lies = legal.0 in cc)
legal-of rules system (_ ∷ records) legal = absurd (let lies = legal.0 in cc)

-- a text says no model of another number of systems
abbrev Says : ℕ → List ℕ → Type 0
Says systems text = (model : Lists) → said text ≡ Some model → IsModelOf systems model

-- the texts of a log say models of so many systems
abbrev SayModels : ℕ → List Record → Type 0
SayModels systems records = AllByRecursion (Says systems) (filter_map text_of records)

-- a log commits nothing, and the model in force is none of so many systems
record CommitsNone (systems : ℕ) (records : List Record) : Type 0 where
  begun : 1 ≤ length records
  units : units_of (models_of records) records ≡ []
  other : (model : Lists) → model_of records ≡ Some model → length model.systems ≡ systems → ⊥

-- the models of a longer log tell the same of the log before
units-before : (records : List Record) (next : Record) → units_of (models_of (records ++ next ∷ [])) records ≡ units_of (models_of records) records
units-before records next =
    of-grown (λ models before. units_of models before)
    (λ models more before within. ap (λ (past : Past). past.units) (past_of-before models more before within)) records next

committed-before : (records : List Record) (next : Record)
    → committed_of (models_of (records ++ next ∷ [])) records ≡ committed_of (models_of records) records
committed-before records next = ap (map (λ (one : OutUnit). one.unit)) (units-before records next)

-- a longer log commits what the log before does, and what the record adds
pub committed-push : (records : List Record) (next : Record)
    → committed_of (models_of (records ++ next ∷ [])) (records ++ next ∷ [])
    ≡ committed_of (models_of records) records ++ map (λ one. one.unit) (added_behind records next).units
committed-push records next =
    let longer = models_of (records ++ next ∷ []) in
    let unit = λ (one : OutUnit). one.unit in
    let more = (added_behind records next).units in
    ap (λ (past : Past). map unit past.units) (sym (tracked-past longer (records ++ next ∷ [])))
    ∙ ap (λ (t : Tracked). map unit t.past.units) (sent-push records next)
    ∙ map-append unit (sent_by records).past.units more
    ∙ ap (λ (past : Past). map unit past.units ++ map unit more) (tracked-past (models_of records) records)

-- a record that commits nothing leaves the units
adds-plain : (one : Record) → is_commit one ≡ false → adds_any one ≡ false
adds-plain (log.Commit origin docs) lies = absurd (cc)
adds-plain log.Dispatch lies = absurd (cc)
adds-plain _ plain = refl

units-stays : (records : List Record) (next : Record) → is_commit next ≡ false
    → units_of (models_of (records ++ next ∷ [])) (records ++ next ∷ []) ≡ units_of (models_of records) records
units-stays records next plain =
    units-stay (models_of (records ++ next ∷ [])) records next (adds-plain next plain) ∙ units-before records next

none-of : {A : Type 0} (found : Option A) → is_none found ≡ true → found ≡ None
none-of None none = refl
none-of (Some x) none = absurd (cc)

-- a log of no records commits nothing
nothing_sent : units_of (models_of []) [] ≡ []
unfolding past_of
nothing_sent = refl

pub committed-nothing : committed_of (models_of []) [] ≡ []
committed-nothing = ap (map (λ (one : OutUnit). one.unit)) nothing_sent

module _ (systems : ℕ) where
  -- a record of the application or of the model may follow only under a model of so many systems, which allows it
  pub allows-by : (records : List Record) (next : Record) → allowed systems records next ≡ true
      → (model : Lists) × (model_of records ≡ Some model) × (length model.systems ≡ systems) × (allowed_under records model next ≡ true)
  allows-by records next may = of (model_of records) refl may
    where
      of : (found : Option Lists) → model_of records ≡ found
          → option_map_or (λ model. (length model.systems == systems) && allowed_under records model next) found false ≡ true
          → (model : Lists) × (model_of records ≡ Some model) × (length model.systems ≡ systems) × (allowed_under records model next ≡ true)
      of None is lies = absurd (cc)
      of (Some model) is may =
          let parts = and_parts (length model.systems == systems) (allowed_under records model next) may in
          (model, is, eqb-true (length model.systems) systems parts.0, parts.1)

  -- a model that keeps what one of so many systems says has as many
  as_many : (model new : Lists) → length model.systems ≡ systems → is_none (first_unkept model new) ≡ true → length new.systems ≡ systems
  as_many model new same kept =
      let grown = (none_unkept model new).0 (none-of (first_unkept model new) kept) in
      sym (length-map new.systems name_and_client) ∙ sym (ap length grown.systems) ∙ length-map model.systems name_and_client ∙ same

  -- a text that may replace a model of so many systems says one of so many
  pub said-replaced : (model : Lists) (text : List ℕ) → length model.systems ≡ systems → may_replace model text ≡ true
      → (new : Lists) × (said text ≡ Some new) × (length new.systems ≡ systems)
  said-replaced model text same may = of (said text) refl may
    where
      of : (found : Option Lists) → said text ≡ found → option_map_or (λ new. is_none (first_unkept model new)) found false ≡ true
          → (new : Lists) × (said text ≡ Some new) × (length new.systems ≡ systems)
      of None says lies = absurd (cc)
      of (Some new) says kept = (new, says, as_many model new same kept)

  -- so each model that it says is
  replaces : (model : Lists) (text : List ℕ) → length model.systems ≡ systems → may_replace model text ≡ true
      → (new : Lists) → said text ≡ Some new → IsModelOf systems new
  replaces model text same may new says =
      let found = said-replaced model text same may in
      let equal : found.0 ≡ new = same_Some found.0 new (sym found.1 ∙ says) in
      let count : length new.systems ≡ systems = ap (λ (m : Lists). length m.systems) (sym equal) ∙ found.2 in
      record { kept = said-kept text new says; most = omega (arith, count) }

  -- one more record of a log whose texts say models of so many systems
  further : (system : ℕ) (before : List Record) (next : Record) → may_follow (model_meaning systems) system before next ≡ true → SayModels systems before
      → SayModels systems (before ++ next ∷ []) ⊎ CommitsNone systems (before ++ next ∷ [])
  further system [] (log.Genesis number text) may say = first (said text) refl
    where
      first : (found : Option Lists) → said text ≡ found → SayModels systems (log.Genesis number text ∷ []) ⊎ CommitsNone systems (log.Genesis number text ∷ [])
      first None is = inl ((λ model says. let lies : None ≡ Some model = sym is ∙ says in absurd (cc)), tt)
      first (Some model) is = elim (cases_Bool (length model.systems == systems)) [
        | inl same ↦ inl (
          (λ other says.
              let equal : model ≡ other = same_Some model other (sym is ∙ says) in
              subst (IsModelOf systems) equal (record {
                kept = said-kept text model is;
                most = let count = eqb-true (length model.systems) systems same in omega (arith, count);
              })),
          tt,
        )
        | inr differs ↦ inr (record {
          begun = omega arith;
          units = units-stays [] (log.Genesis number text) refl ∙ nothing_sent;
          other = λ other found same.
              let equal : model ≡ other = same_Some model other (sym is ∙ sym (model_of-first [] (log.Genesis number text) text refl refl) ∙ found) in
              eqb-false (length model.systems) systems differs (ap (λ (m : Lists). length m.systems) equal ∙ same);
        })
      ]
  further system [] _ may say = absurd (let lies = may in cc)
  further system (one ∷ rest) (log.Genesis number text) may say = absurd (let lies = may in cc)
  further system (one ∷ rest) (log.Model text) may say =
      let by = allows-by (one ∷ rest) (log.Model text) may in
      let parts = and_parts (not (waits_any (one ∷ rest))) (may_replace by.0 text) by.3 in
      inl (subst (AllByRecursion (Says systems)) (sym (filter_map-Some text_of (one ∷ rest) (log.Model text) text refl))
      (AllByRecursion-snoc (Says systems) (filter_map text_of (one ∷ rest)) text say (replaces by.0 text by.2 parts.1)))
  further system (one ∷ rest) next may say = inl (subst (AllByRecursion (Says systems)) (sym (filter_map-None text_of (one ∷ rest) next refl)) say)

  -- one more record of a log that commits nothing
  still : (system : ℕ) (before : List Record) (next : Record) → may_follow (model_meaning systems) system before next ≡ true → CommitsNone systems before
      → CommitsNone systems (before ++ next ∷ [])
  still system [] next may none = absurd (let begun = none.begun in omega (arith, begun))
  still system (one ∷ rest) next may none = of next may
    where
      lies : (next : Record) → allowed systems (one ∷ rest) next ≡ true → ⊥
      lies next may = let by = allows-by (one ∷ rest) next may in none.other by.0 by.1 by.2

      same : (next : Record) → is_commit next ≡ false → text_of next ≡ None → CommitsNone systems ((one ∷ rest) ++ next ∷ [])
      same next plain silent = record {
        begun = omega arith;
        units = units-stays (one ∷ rest) next plain ∙ none.units;
        other = λ model found. none.other model (sym (model_of-stay (one ∷ rest) next silent) ∙ found);
      }

      of : (next : Record) → may_follow_others (model_meaning systems) system (one ∷ rest) next ≡ true → CommitsNone systems ((one ∷ rest) ++ next ∷ [])
      of (log.Genesis number text) may = absurd (cc)
      of (log.Commit origin docs) may = absurd (lies (log.Commit origin docs) may)
      of log.Dispatch may = absurd (lies log.Dispatch may)
      of (log.Model text) may = absurd (lies (log.Model text) may)
      of next may = same next refl refl

  -- what a legal log is: its texts say models of so many systems, or it commits nothing
  legal-said : (system : ℕ) (records : List Record) → IsLegal (model_meaning systems) system records → SayModels systems records ⊎ CommitsNone systems records
  legal-said system records legal =
      legal-keeps (model_meaning systems) system (λ before. SayModels systems before ⊎ CommitsNone systems before) (inl tt)
      (λ before next may is. elim is [
        | inl say ↦ further system before next may say
        | inr none ↦ inr (still system before next may none)
      ])
      records legal

  -- the models of a legal log are of so many systems, or it commits nothing
  pub legal-models : (system : ℕ) (records : List Record) → IsLegal (model_meaning systems) system records
      → AllByRecursion (IsModelOf systems) (models_of records) ⊎ (units_of (models_of records) records ≡ [])
  legal-models system records legal = elim (legal-said system records legal) [
    | inl say ↦ inl (models_of-texts (IsModelOf systems) records say)
    | inr none ↦ inr none.units
  ]

  -- each unit of a legal log may be sent
  pub legal-sendable : (system : ℕ) (records : List Record) → IsLegal (model_meaning systems) system records
      → AllByRecursion (λ one. IsSendable systems one.unit) (units_of (models_of records) records)
  legal-sendable system records legal = elim (legal-models system records legal) [
    | inl each ↦ units-sendable systems (models_of records) records each
    | inr none ↦ subst (AllByRecursion (λ (one : OutUnit). IsSendable systems one.unit)) (sym none) tt
  ]

  -- ---- how units are numbered

  index-map : (units : List OutUnit) (k : ℕ) (d : AleUnit) (one : OutUnit) → slice_get units k ≡ Some one
      → slice_index_or (map (λ (u : OutUnit). u.unit) units) k d ≡ one.unit
  index-map [] k d one here = absurd (cc)
  index-map (u ∷ us) zero d one here = ap (λ (x : OutUnit). x.unit) (same_Some u one here)
  index-map (u ∷ us) (suc k) d one here = index-map us k d one here

  numbered : (system : ℕ) (records : List Record) → IsLegal (model_meaning systems) system records → (k : ℕ) (d : AleUnit)
      → k < length (committed_of (models_of records) records)
      → IsUnitAt systems system k (slice_index_or (committed_of (models_of records) records) k d)
  numbered system records legal k d within =
      let models = models_of records in
      let units = units_of models records in
      let count = length-map units (λ (u : OutUnit). u.unit) in
      let got = slice_get-within units k (omega (arith, within, count)) in
      let number = unit-at models system records k got.0 (legal-of (model_meaning systems) system records legal) got.1 in
      let may = AllByRecursion-at (λ (one : OutUnit). IsSendable systems one.unit) units k got.0
      (legal-sendable system records legal) got.1 in
      subst (IsUnitAt systems system k) (sym (index-map units k d got.0 got.1)) (record {
        tid = number.tid ∙ (let same : suc k ≡ k + 1 = omega arith in ap (λ n. record { system = system; unit = n }) same);
        sender = number.sender;
        receiver_least = may.receiver_least;
        receiver_most = may.receiver_most;
        other = λ same. may.other (same ∙ sym number.sender);
        outbound_names = may.outq.different;
        inbound_names = may.inq.different;
      })

  -- ---- how many there are

  -- there is room where one that commits may follow
  pub few-commit : (system : ℕ) (records : List Record) (next : Record) → is_commit next ≡ true → may_follow (model_meaning systems) system records next ≡ true
      → has_room records next ≡ true
  few-commit system [] (log.Commit origin docs) is may = absurd (let lies = may in cc)
  few-commit system [] log.Dispatch is may = absurd (let lies = may in cc)
  few-commit system (first ∷ rest) (log.Commit origin docs) is may =
      let by = allows-by (first ∷ rest) (log.Commit origin docs) may in
      let application = (applied_by (first ∷ rest)).application in
      (and_parts (may_commit by.0 application.objects application.pointers origin docs) (has_room (first ∷ rest) (log.Commit origin docs)) by.3).1
  few-commit system (first ∷ rest) log.Dispatch is may =
      let by = allows-by (first ∷ rest) log.Dispatch may in
      (and_parts (waits_any (first ∷ rest)) (has_room (first ∷ rest) log.Dispatch) by.3).1
  few-commit system records _ is may = absurd (cc)

  stays : (records : List Record) (next : Record) → is_commit next ≡ false
      → committed_of (models_of (records ++ next ∷ [])) (records ++ next ∷ []) ≡ committed_of (models_of records) records
  stays records next plain = ap (map (λ (one : OutUnit). one.unit)) (units-stays records next plain)

  -- how many units a longer log commits
  counted : (records : List Record) (next : Record)
      → length (committed_of (models_of (records ++ next ∷ [])) (records ++ next ∷ []))
      ≡ length (sent_by records).past.units + length (added_behind records next).units
  counted records next =
      let longer = models_of (records ++ next ∷ []) in
      length-map (units_of longer (records ++ next ∷ [])) (λ (one : OutUnit). one.unit)
      ∙ ap (λ past. length past.units) (sym (tracked-past longer (records ++ next ∷ [])))
      ∙ ap (λ (t : Tracked). length t.past.units) (sent-push records next)
      ∙ length-append (sent_by records).past.units (added_behind records next).units

  most : (system : ℕ) (records : List Record) → IsLegal (model_meaning systems) system records
      → length (committed_of (models_of records) records) ≤ MAX_UNIT
  most system records legal =
      legal-keeps (model_meaning systems) system (λ before. length (committed_of (models_of before) before) ≤ MAX_UNIT)
      none
      (λ before next may few. elim (cases_Bool (is_commit next)) [
        | inl is ↦
            let room = leb-true _ MAX_UNIT (few-commit system before next is may) in
            let count = counted before next in
            omega (arith, room, count)
        | inr plain ↦ subst (λ units. length units ≤ MAX_UNIT) (sym (stays before next plain)) few
      ])
      records legal
    where
      none : length (committed_of (models_of []) []) ≤ MAX_UNIT
      none = let count = ap length committed-nothing in omega (arith, count)

  -- ---- what is offered

  no_text : (next : Record) → may_change_offers next ≡ false → text_of next ≡ None
  no_text (log.Genesis system text) lies = absurd (cc)
  no_text (log.Model text) lies = absurd (cc)
  no_text _ plain = refl

  -- the laws hold
  pub lawful : 1 ≤ systems → systems ≤ 16 → IsLawful (model_meaning systems)
  lawful least most_systems = record {
    systems_least = least;
    systems_most = most_systems;
    nothing_at_first = λ system. committed-nothing;
    numbered = numbered;
    most = most;
    commits = λ system records next may is.
        let longer = models_of (records ++ next ∷ []) in
        subst (λ before. IsPrefix before (committed_of longer (records ++ next ∷ []))) (committed-before records next) (committed-grows longer records next);
    commits_nothing = λ system records next plain. stays records next plain;
    offers_stay = λ system records next function may plain.
        ap (λ (found : Option Lists). option_map_or (λ model. offers model system function) found false) (model_of-stay records next (no_text next plain));
  }
