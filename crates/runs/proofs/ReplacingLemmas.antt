-- A model comes into force at one system after the other.
use Rattle.std.specs.Prelude.{filter, cond, nat_lt, if◌then◌else◌}
use Rattle.std.specs.List.{list_all, range_with_len}
use Rattle.std.specs.Option.{option_and_then, option_map, option_or, unwrap_or}
use Rattle.std.proofs.Common.{◌≡◌, ◌≢◌, inl, inr, ℕ, ◌+◌, ◌-◌, ◌<◌, ◌≤◌, ◌&&◌, Bool, true, false, Option, Some, None, Result, Ok, Err}
use Rattle.std.proofs.Common.{List, [], ◌∷◌, ◌++◌, length, refl, sym, ap, subst, ◌∙◌, append-nil, append_assoc, length-append, arith}
use Rattle.std.proofs.lemmas.Bool.{and_parts, cases_Bool}
use Rattle.std.proofs.lemmas.Bool.Decides.{nat_tests}
use Rattle.ale_volumes.specs.Disk.{Disk}
use Rattle.dist_model.specs.declared.lists.Lists.{Lists}
use Rattle.unit_core.specs.declared.records.Record.{Record}
use Rattle.unit_core.specs.declared.records.Record.TheVariants.{Model}
use Rattle.model_growth.specs.declared.growth.Unkept.{Unkept}
use Rattle.model_growth.specs.Growth.{first_unkept}
use Rattle.model_growth.specs.Paths.{path_of}
use Rattle.model_text.specs.Text.{answer_to}
use Rattle.said_models.specs.OfLog.{differs, model_of}
use Rattle.said_models.specs.Said.{of_answer, said}
use Rattle.status_log.specs.declared.refusal.Refusal.{Refusal}
use Rattle.status_log.specs.declared.refusal.Refusal.TheVariants as refusal
use Rattle.trfc_protocol.specs.declared.world.World.{World}
use Rattle.trfc_protocol.specs.declared.world.SystemState.{SystemState}
use Rattle.trfc_protocol.specs.Happens.{written}
use Rattle.trfc_protocol.specs.Legal.{may_follow}
use Rattle.trfc_protocol.specs.Meaning.{Meaning}
use Rattle.trfc_protocol.specs.RecordOf.{may_operate, record_if}
use Rattle.trfc_protocol.specs.Worlds.{is_up, log_of, log_or_none, state_of, state_with, up_or_not, with_record, with_state_at}
use Rattle.trfc_protocol.proofs.WorldLemmas.{state_of-elsewhere, with_state-unknown}
use Rattle.unit_journal.specs.declared.journals.SystemJournals.{SystemJournals}
use Rattle.byte_journal.specs.Log.{most_bytes}
use Rattle.unit_codec.specs.Entries.{entry_with}
use Rattle.unit_journal.specs.OnDisk.{entries_of, last_moment, later, length_with, moment_of, moments_at}
use Rattle.unit_landscape.specs.KeptWorlds.{KeptOf}
use Rattle.unit_landscape.specs.Appending.{at}
use Rattle.unit_landscape.specs.Ends.{Failed, FellBehind, Happened, IsFull, Stays}
use Rattle.unit_landscape.specs.Kept.{IsLandscape}
use Rattle.unit_landscape.specs.Writes.{MomentsAs, size_with}
use Rattle.document_state.specs.declared.document_tables.DocumentTables.{DocumentTables}
use Rattle.document_state.specs.declared.model_rules.ModelRules.{ModelRules}
use Rattle.document_state.specs.Allowed.{waits_any}
use Rattle.landscape.specs.Asked.{Asked, asked_model, waiting_in}
use Rattle.landscape.specs.Begun.{AreBegun}
use Rattle.landscape.specs.Carried.{CarriedAs, asked_at, operator_event}
use Rattle.landscape.specs.Remodelled.{MayAs, asks_any, first_refusal, full_at, numbers_of, refused_model, to_remodel, unkept_at, waiting_at}
use Rattle.landscape.proofs.BarredLemmas.{left, left-next, left-none}
use Rattle.landscape.proofs.BegunLemmas.{meaning}
use Rattle.landscape.proofs.JudgedLemmas.{all-kept, model-asked, same-asked, unkept-is}
use Rattle.landscape.proofs.StandingLemmas.{up-model}
use Rattle.runs.specs.Remodels.{FailsAt, RemodelledAs, RunsShort, Takes, TakeAll, TakesFront}

-- a text that is answered by a model says it
pub said-of : (text : List ℕ) (model : Lists) → answer_to text ≡ Ok model → said text ≡ Some model
unfolding said
said-of text model answers = ap of_answer answers

-- ---- a record of one system

-- what a model is judged by at a system is as before: its log, whether it is up, and the moments of its records
pub record IsAsBefore {V : Type 0} (before now : KeptOf ModelRules DocumentTables V) (system : ℕ) : Type 0 where
  pub log : log_of now.world system ≡ log_of before.world system
  pub up : is_up now.world system ≡ is_up before.world system
  pub moments : moments_at now.journals (system - 1) ≡ moments_at before.journals (system - 1)

with-rules : (world : World ModelRules) (k : ℕ) (change : SystemState → SystemState) (found : Option SystemState)
    → (with_state_at world k change found).rules ≡ world.rules
with-rules world k change None = refl
with-rules world k change (Some state) = refl

with-claims : (world : World ModelRules) (k : ℕ) (change : SystemState → SystemState) (found : Option SystemState)
    → (with_state_at world k change found).claims ≡ world.claims
with-claims world k change None = refl
with-claims world k change (Some state) = refl

module _ {V : Type 0} (disk : Disk V) (before after : KeptOf ModelRules DocumentTables V) (rules : Meaning) (system : ℕ) (next : Record)
    (did : Happened rules disk before after (operator_event system next)) where
  abbrev Met : Bool
  Met = is_up before.world system && may_operate before.world next && may_follow rules system (log_of before.world system) next

  -- its record, where it may follow, is that of the system alone
  pub stays-rules : after.world.rules ≡ before.world.rules
  stays-rules = ap (λ (w : World ModelRules). w.rules) did.world ∙ of Met
    where
      of : (met : Bool) → (written (record_if met system next) before.world).rules ≡ before.world.rules
      of true = with-rules before.world (system - 1) (state_with next) (state_of before.world.systems system)
      of false = refl

  pub stays-unclaimed : before.world.claims ≡ [] → after.world.claims ≡ []
  stays-unclaimed none = ap (λ (w : World ModelRules). w.claims) did.world ∙ of Met ∙ none
    where
      of : (met : Bool) → (written (record_if met system next) before.world).claims ≡ before.world.claims
      of true = with-claims before.world (system - 1) (state_with next) (state_of before.world.systems system)
      of false = refl

  pub stays-moment : moment_of after.journals ≡ moment_of before.journals
  stays-moment = of Met did.moments
    where
      of : (met : Bool) → MomentsAs before.journals after.journals (record_if met system next) → moment_of after.journals ≡ moment_of before.journals
      of true is = let one = is.one in one.moment
      of false is = ap moment_of is

  pub stays-elsewhere : (other : ℕ) → other ≢ system → other - 1 ≢ system - 1 → IsAsBefore before after other
  stays-elsewhere other apart places = record {
    log = ap log_or_none states;
    up = ap up_or_not states;
    moments = moments Met did.moments;
  }
    where
      elsewhere : (found : Option SystemState) → state_of before.world.systems system ≡ found
          → state_of (with_record before.world system next).systems other ≡ state_of before.world.systems other
      elsewhere None unknown =
          ap (λ (w : World ModelRules). state_of w.systems other) (with_state-unknown before.world system (state_with next) unknown)
      elsewhere (Some state) known = state_of-elsewhere before.world system (state_with next) state known other apart

      state : (met : Bool) → state_of (written (record_if met system next) before.world).systems other ≡ state_of before.world.systems other
      state true = elsewhere (state_of before.world.systems system) refl
      state false = refl

      states : state_of after.world.systems other ≡ state_of before.world.systems other
      states = ap (λ (w : World ModelRules). state_of w.systems other) did.world ∙ state Met

      moments : (met : Bool) → MomentsAs before.journals after.journals (record_if met system next)
          → moments_at after.journals (other - 1) ≡ moments_at before.journals (other - 1)
      moments true is = let one = is.one in let same = one.others (other - 1) places in ap (λ found. unwrap_or found []) same.moments
      moments false is = ap (λ (all : SystemJournals). moments_at all (other - 1)) is

-- ---- systems that take a text, one after the other

module _ {V : Type 0} (disk : Disk V) (text : List ℕ) where
  -- one more takes it
  pub TakeAll-push : (systems : List ℕ) (system : ℕ) (start now after : KeptOf ModelRules DocumentTables V)
      → TakeAll disk text systems start now → Takes disk text system now after → TakeAll disk text (systems ++ system ∷ []) start after
  TakeAll-push [] system start now after same takes =
      (after, subst (λ (k : KeptOf ModelRules DocumentTables V). Takes disk text system k after) same takes, refl)
  TakeAll-push (first ∷ systems) system start now after (next, took, rest) takes =
      (next, took, TakeAll-push systems system next now after rest takes)

-- nothing is against it, by any of these
or-none : {A : Type 0} (one other : Option A) → option_or one other ≡ None → (one ≡ None) × (other ≡ None)
or-none None other none = (refl, none)
or-none (Some a) other none = cc

may-none : {A : Type 0} (up : Bool) (one two three : Option A) (why : A) → (if up then option_or one (option_or two three) else Some why) ≡ None
    → (up ≡ true) × (one ≡ None) × (two ≡ None) × (three ≡ None)
may-none true one two three why none =
    let first = or-none one (option_or two three) none in let second = or-none two three first.1 in (refl, first.0, second.0, second.1)
may-none false one two three why none = cc

-- how long a volume would be does not hang on what the other systems do
pub same-size : {V : Type 0} (start now : KeptOf ModelRules DocumentTables V) (system : ℕ) (next : Record) → IsAsBefore start now system
    → moment_of now.journals ≡ moment_of start.journals → size_with now system next ≡ size_with start system next
same-size start now system next is moment =
    ap (λ log. length_with (entries_of (moments_at now.journals (system - 1)) log)
    (entry_with (later (moment_of now.journals) (last_moment (moments_at now.journals (system - 1)))) next)) is.log
    ∙ ap (λ moments. length_with (entries_of moments (log_of start.world system)) (entry_with (later (moment_of now.journals) (last_moment moments)) next))
    is.moments
    ∙ ap (λ one. length_with (entries_of (moments_at start.journals (system - 1)) (log_of start.world system))
    (entry_with (later one (last_moment (moments_at start.journals (system - 1)))) next)) moment

over-most : (size : ℕ) → most_bytes < size → nat_lt most_bytes size ≡ true
over-most size over = grind (arith, nat_tests, over)

module _ {V : Type 0} (disk : Disk V) (new : Lists) (text : List ℕ) (start : KeptOf ModelRules DocumentTables V) where
  abbrev many : ℕ
  many = start.world.rules.systems

  -- whether another text is in force at a system
  abbrev asks : ℕ → Bool
  asks system = differs text (log_of start.world system)

  -- of the systems after the first so many those at which one is
  abbrev ahead : ℕ → List ℕ
  ahead number = filter asks (left many number)

  -- The first so many systems have taken the text, or have it; so many took it. At the others nothing has changed, and none refuses.
  pub record Along (number count : ℕ) (now : KeptOf ModelRules DocumentTables V) : Type 0 where
    pub done : List ℕ
    pub these : to_remodel start.world text ≡ done ++ ahead number
    pub took : TakeAll disk text done start now
    pub counted : count ≡ length done
    pub few : count ≤ number
    pub may : refused_model start new text ≡ None
    pub rules : now.world.rules ≡ start.world.rules
    pub claims : now.world.claims ≡ []
    pub moment : moment_of now.journals ≡ moment_of start.journals
    pub others : (system : ℕ) → number < system → IsAsBefore start now system
    pub ups : list_all (is_up start.world) (left many number) ≡ true
    pub keep : first_refusal (unkept_at start new text) (ahead number) ≡ None
    pub ready : first_refusal (waiting_at start new text) (ahead number) ≡ None
    pub fit : first_refusal (full_at start new text) (ahead number) ≡ None

  pub Along-start : start.world.claims ≡ [] → refused_model start new text ≡ None → Along 0 0 start
  Along-start claims may =
      let all : left many 0 ≡ numbers_of start.world = let same : many - 0 ≡ many = omega arith in ap (range_with_len 1) same in
      let none = may-none (list_all (is_up start.world) (numbers_of start.world)) (first_refusal (unkept_at start new text) (to_remodel start.world text))
      (first_refusal (waiting_at start new text) (to_remodel start.world text)) (first_refusal (full_at start new text) (to_remodel start.world text))
      refusal.N2 may in
      record {
        done = [];
        these = ap (filter asks) (sym all);
        took = refl;
        counted = refl;
        few = omega arith;
        may = may;
        rules = refl;
        claims = claims;
        moment = refl;
        others = λ system later. record { log = refl; up = refl; moments = refl };
        ups = ap (list_all (is_up start.world)) all ∙ none.0;
        keep = ap (λ systems. first_refusal (unkept_at start new text) (filter asks systems)) all ∙ none.1;
        ready = ap (λ systems. first_refusal (waiting_at start new text) (filter asks systems)) all ∙ none.2;
        fit = ap (λ systems. first_refusal (full_at start new text) (filter asks systems)) all ∙ none.3;
      }

  -- behind the last system it has come into force
  pub Along-whole : (number count : ℕ) (now : KeptOf ModelRules DocumentTables V) → Along number count now → number ≡ many
      → RemodelledAs disk text new start now (Ok count)
  Along-whole number count now along last =
      let none : ahead number ≡ [] = ap (filter asks) (left-none many number last) in
      let all : to_remodel start.world text ≡ along.done = along.these ∙ ap (λ more. along.done ++ more) none ∙ append-nil along.done in
      (along.may, along.counted ∙ ap length (sym all), subst (λ systems. TakeAll disk text systems start now) (sym all) along.took)

  module _ (is : IsLandscape meaning start.world) (begun : AreBegun start.world) (number count : ℕ) (now after : KeptOf ModelRules DocumentTables V)
      (along : Along number count now) (within : number < many) where
    abbrev next : ℕ
    next = number + 1

    upped : (is_up start.world next ≡ true) × (list_all (is_up start.world) (left many next) ≡ true)
    upped =
        and_parts (is_up start.world next) (list_all (is_up start.world) (left many next))
        (sym (ap (list_all (is_up start.world)) (left-next many number within)) ∙ along.ups)

    ahead-is : ahead number ≡ cond (asks next) (next ∷ ahead next) (ahead next)
    ahead-is = ap (filter asks) (left-next many number within)

    skips : asks next ≡ false → ahead number ≡ ahead next
    skips test = ahead-is ∙ ap (λ b. cond b (next ∷ ahead next) (ahead next)) test

    comes : asks next ≡ true → ahead number ≡ next ∷ ahead next
    comes test = ahead-is ∙ ap (λ b. cond b (next ∷ ahead next) (ahead next)) test

    -- where it is asked it does not refuse
    passed : (why : ℕ → Option Refusal) → asks next ≡ true → first_refusal why (ahead number) ≡ None
        → (why next ≡ None) × (first_refusal why (ahead next) ≡ None)
    passed why test none = or-none (why next) (first_refusal why (ahead next)) (sym (ap (first_refusal why) (comes test)) ∙ none)

    here : IsAsBefore start now next
    here = along.others next (omega arith)

    -- what is asked for there
    abbrev Asking : Asked
    Asking = asked_at now.world next (λ log. asked_model log new text)

    asking-is : Asking ≡ asked_model (log_of start.world next) new text
    asking-is =
        ap (λ b. if b then asked_model (log_of now.world next) new text else Err refusal.N2) (here.up ∙ upped.0)
        ∙ ap (λ log. asked_model log new text) here.log

    asking-skips : asks next ≡ false → Asking ≡ Ok None
    asking-skips test =
        let of = up-model start.world is begun next upped.0 in
        asking-is ∙ same-asked (log_of start.world next) of.model new text of.in_force test

    asking-takes : asks next ≡ true → Asking ≡ Ok (Some (Model text))
    asking-takes test =
        let of = up-model start.world is begun next upped.0 in
        asking-is
        ∙ model-asked (log_of start.world next) of.model new text of.in_force test
        (all-kept (first_unkept of.model new)
        (sym (unkept-is (log_of start.world next) of.model new text of.in_force) ∙ (passed (unkept_at start new text) test along.keep).0))
        (passed (waiting_at start new text) test along.ready).0

    -- a record that is asked for is that of the text, at a system that is asked
    asked-record : (one : Record) → Asking ≡ Ok (Some one) → (asks next ≡ true) × (one ≡ Model text)
    asked-record one asked = elim (cases_Bool (asks next)) [
      | inl test ↦ let same = sym asked ∙ asking-takes test in (test, (cc))
      | inr test ↦ let lies = sym asked ∙ asking-skips test in cc
    ]

    not-refused : (why : Refusal) → Asking ≡ Err why → ⊥
    not-refused why asked = elim (cases_Bool (asks next)) [
      | inl test ↦ let lies = sym asked ∙ asking-takes test in cc
      | inr test ↦ let lies = sym asked ∙ asking-skips test in cc
    ]

    abbrev Carried : {T : Type 0} → (T → Type 0) → Result T Refusal → Type 0
    Carried answers result = CarriedAs disk now after next (operator_event next) Asking answers result

    -- it has the text
    pub Along-skip : Carried (λ (took : Bool). took ≡ asks_any Asking) (Ok false) → Along next count after
    Along-skip did = elim did.1 [
      | inl none ↦
          let test : asks next ≡ false = elim (cases_Bool (asks next)) [
            | inl test ↦ let lies = did.0 ∙ ap asks_any (asking-takes test) in cc
            | inr test ↦ test
          ] in
          subst (λ (k : KeptOf ModelRules DocumentTables V). Along next count k) (sym none.1) (record {
            done = along.done;
            these = along.these ∙ ap (λ more. along.done ++ more) (skips test);
            took = along.took;
            counted = along.counted;
            few = let few = along.few in omega (arith, few);
            may = along.may;
            rules = along.rules;
            claims = along.claims;
            moment = along.moment;
            others = λ system later. along.others system (omega (arith, later));
            ups = upped.1;
            keep = sym (ap (first_refusal (unkept_at start new text)) (skips test)) ∙ along.keep;
            ready = sym (ap (first_refusal (waiting_at start new text)) (skips test)) ∙ along.ready;
            fit = sym (ap (first_refusal (full_at start new text)) (skips test)) ∙ along.fit;
          })
      | inr asked ↦ let lies = did.0 ∙ ap asks_any asked.1 in cc
    ]

    -- or takes it
    pub Along-take : Carried (λ (took : Bool). took ≡ asks_any Asking) (Ok true) → Along next (count + 1) after
    Along-take did = elim did.1 [
      | inl none ↦ let lies = did.0 ∙ ap asks_any none.0 in cc
      | inr asked ↦
          let one = asked-record asked.0 asked.1 in
          let test = one.0 in
          let takes : Takes disk text next now after =
          subst (λ r. Happened (meaning now.world.rules) disk now after (operator_event next r)) one.1 asked.2 in
          record {
            done = along.done ++ next ∷ [];
            these = along.these ∙ ap (λ more. along.done ++ more) (comes test) ∙ sym (append_assoc along.done (next ∷ []) (ahead next));
            took = TakeAll-push disk text along.done next start now after along.took takes;
            counted = ap (λ n. n + 1) along.counted ∙ sym (length-append along.done (next ∷ []));
            few = let few = along.few in omega (arith, few);
            may = along.may;
            rules = stays-rules disk now after (meaning now.world.rules) next (Model text) takes ∙ along.rules;
            claims = stays-unclaimed disk now after (meaning now.world.rules) next (Model text) takes along.claims;
            moment = stays-moment disk now after (meaning now.world.rules) next (Model text) takes ∙ along.moment;
            others = λ system later.
                let was = along.others system (omega (arith, later)) in
                let still = stays-elsewhere disk now after (meaning now.world.rules) next (Model text) takes system (λ same. absurd (omega (
                  arith,
                  later,
                  same,
                )))
                (λ same. absurd (omega (arith, later, same))) in
                record { log = still.log ∙ was.log; up = still.up ∙ was.up; moments = still.moments ∙ was.moments };
            ups = upped.1;
            keep = (passed (unkept_at start new text) test along.keep).1;
            ready = (passed (waiting_at start new text) test along.ready).1;
            fit = (passed (full_at start new text) test along.fit).1;
          }
    ]

    -- the systems so far took it, and it ended there
    front : (Ends : List ℕ → KeptOf ModelRules DocumentTables V → Type 0) → Ends (ahead number) now
        → TakesFront disk text (to_remodel start.world text) start Ends
    front Ends ends = record { done = along.done; left = ahead number; these = along.these; between = now; took = along.took; ends = ends }

    short-stays : (systems : List ℕ) → Stays (meaning now.world.rules) disk now after → RunsShort disk text after systems now
    short-stays [] stays = stays
    short-stays (system ∷ systems) stays = inl stays

    not-full : (size : ℕ) (one : Record) → Asking ≡ Ok (Some one) → IsFull (meaning now.world.rules) disk now after (at next one) size → ⊥
    not-full size one asked full =
        let its = asked-record one asked in
        let long = full.long in
        let same : size ≡ size_with start next (Model text) =
        long.long ∙ ap (size_with now next) its.1 ∙ same-size start now next (Model text) here along.moment in
        let over = over-most (size_with start next (Model text)) (subst (λ n. most_bytes < n) same long.over) in
        let none = (passed (full_at start new text) its.0 along.fit).0 in
        let lies : full_at start new text next ≡ Some (refusal.N10 (size_with start next (Model text))) =
        ap (λ b. if b then Some (refusal.N10 (size_with start next (Model text))) else None) over in
        let both = sym lies ∙ none in cc

    -- how else it ended there
    pub Along-ended : {T : Type 0} (answers : T → Type 0) (why : Refusal) → Carried answers (Err why) → RemodelledAs disk text new start after (Err why)
    Along-ended answers refusal.Volume did =
        let one = asked-record did.0 did.1 in (
          along.may,
          front (FailsAt disk text after)
              (subst (λ systems. FailsAt disk text after systems now) (sym (comes one.0))
              (subst (λ r. Failed (meaning now.world.rules) disk now after (at next r)) one.1 did.2)),
        )
    Along-ended answers refusal.OutOfMemory did = inr (
      along.may,
      elim did [
        | inl stays ↦ front (RunsShort disk text after) (short-stays (ahead number) stays)
        | inr asked ↦
            let one = asked-record asked.0 asked.1 in
            front (RunsShort disk text after)
            (subst (λ systems. RunsShort disk text after systems now) (sym (comes one.0))
            (inr (subst (λ r. FellBehind (meaning now.world.rules) disk now after (operator_event next r) (at next r)) one.1 asked.2)))
      ],
    )
    Along-ended answers (refusal.N10 size) did = absurd (not-full size did.0 did.1 did.2)
    Along-ended answers why did = absurd (not-refused why did.0)

-- ---- a model that may not come into force

or-is : (one other : Option Refusal) (refusal : Refusal) → one ≢ Some refusal → other ≢ Some refusal → option_or one other ≢ Some refusal
or-is None other refusal first second = second
or-is (Some one) other refusal first second = first

first-is : (why : ℕ → Option Refusal) (refusal : Refusal) → ((system : ℕ) → why system ≢ Some refusal) → (systems : List ℕ)
    → first_refusal why systems ≢ Some refusal
first-is why refusal none [] = λ lies. absurd (cc)
first-is why refusal none (system ∷ systems) =
    or-is (why system) (first_refusal why systems) refusal (none system) (first-is why refusal none systems)

no-part : (found : Option Unkept) → option_map (λ part. refusal.N15 (path_of part)) found ≢ Some refusal.Volume
no-part None = λ lies. absurd (cc)
no-part (Some part) = λ lies. absurd (cc)

no-wait : (waits : Bool) (count : ℕ) → (if waits then Some (refusal.N13 count) else None) ≢ Some refusal.Volume
no-wait true count = λ lies. absurd (cc)
no-wait false count = λ lies. absurd (cc)

no-room : (over : Bool) (size : ℕ) → (if over then Some (refusal.N10 size) else None) ≢ Some refusal.Volume
no-room true size = λ lies. absurd (cc)
no-room false size = λ lies. absurd (cc)

module _ {V : Type 0} (disk : Disk V) (new : Lists) (text : List ℕ) (start : KeptOf ModelRules DocumentTables V) where
  -- that it may not come into force is no fault of a volume
  no-volume : refused_model start new text ≢ Some refusal.Volume
  no-volume = of (list_all (is_up start.world) (numbers_of start.world))
    where
      asked : List ℕ
      asked = to_remodel start.world text

      of : (up : Bool)
          → (if up then option_or (first_refusal (unkept_at start new text) asked)
          (option_or (first_refusal (waiting_at start new text) asked) (first_refusal (full_at start new text) asked)) else Some refusal.N2)
          ≢ Some refusal.Volume
      of true =
          or-is (first_refusal (unkept_at start new text) asked)
          (option_or (first_refusal (waiting_at start new text) asked) (first_refusal (full_at start new text) asked)) refusal.Volume
          (first-is (unkept_at start new text) refusal.Volume
          (λ system. no-part (option_and_then (λ old. first_unkept old new) (model_of (log_of start.world system)))) asked)
          (or-is (first_refusal (waiting_at start new text) asked) (first_refusal (full_at start new text) asked) refusal.Volume
          (first-is (waiting_at start new text) refusal.Volume
          (λ system. no-wait (waits_any (log_of start.world system)) (waiting_in (log_of start.world system))) asked)
          (first-is (full_at start new text) refusal.Volume
          (λ system. no-room (nat_lt most_bytes (size_with start system (Model text))) (size_with start system (Model text))) asked))
      of false = λ lies. absurd (cc)

  -- nothing has changed where it may not
  pub refused-as : (T : Type 0) (why : Refusal) → MayAs {T = T} (refused_model start new text) (Err why)
      → RemodelledAs disk text new start start (Err why)
  refused-as T refusal.OutOfMemory is = inl refl
  refused-as T refusal.Volume is = absurd (no-volume is)
  refused-as T why is = (is, refl)
