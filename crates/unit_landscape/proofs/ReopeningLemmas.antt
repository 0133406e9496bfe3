-- Systems that begin where logs are there: a Genesis as the first record of an empty log keeps the others as sound as they were, and where
-- each system has begun the world is safe.
use Rattle.std.specs.Prelude.{slice_get, slice_set, map, ◌≢◌, Result, Ok, Err, OnOk}
use Rattle.std.proofs.Common.{◌≡◌, ℕ, zero, suc, ◌-◌, ◌<◌, ◌≤◌, true, Some, List, [], ◌∷◌, ◌++◌, length, inl, inr, refl, sym, ap, subst, ◌∙◌, arith}
use Rattle.std.proofs.lemmas.Bool.{cases_eq, eq-eqb}
use Rattle.std.proofs.lemmas.List.{length-map, map-set}
use Rattle.std.proofs.lemmas.Option.{none-some, same_Some}
use Rattle.ale_base.specs.Prefix.{IsPrefix}
use Rattle.ale_base.proofs.PrefixLemmas.{IsPrefix-same}
use Rattle.unit_core.specs.declared.records.Record.{Record}
use Rattle.unit_core.specs.declared.records.Record.TheVariants.{Genesis}
use Rattle.unit_core.specs.Systems.{of_system}
use Rattle.unit_core.proofs.OnceLemmas.{Joins, MayJoin, Once-joins, at_each}
use Rattle.trfc_protocol.specs.declared.world.SystemState.{SystemState}
use Rattle.trfc_protocol.specs.declared.world.World.{World}
use Rattle.trfc_protocol.specs.Legal.{IsLawful, IsLegal, may_follow}
use Rattle.trfc_protocol.specs.Meaning.{Meaning}
use Rattle.trfc_protocol.specs.Safe.{IsSafe}
use Rattle.trfc_protocol.specs.Start.{first_state, first_world}
use Rattle.trfc_protocol.specs.Worlds.{committed_by, log_of, log_or_none, state_of, state_with, with_record}
use Rattle.trfc_protocol.proofs.LegalLemmas.{committed-NoneTwice, committed-grows, push_not_empty}
use Rattle.trfc_protocol.proofs.SoundLemmas.{Sound-same}
use Rattle.trfc_protocol.proofs.StartLemmas.{Safe-of_logs}
use Rattle.trfc_protocol.proofs.WorldLemmas.{joins-with_state, length-with_state, with_state-known}
use Rattle.unit_landscape.specs.Opening.{BeginsLegal, logs_of}
use Rattle.unit_landscape.specs.Beginning.{AreBegunFrom, BegunAs, HaveBegun, begun_log}
use Rattle.unit_landscape.specs.declared.beginning.BeginEnd.{BeginEnd}
use Rattle.unit_landscape.specs.KeptWorlds.{KeptOf}
use Rattle.unit_landscape.specs.Breaches.{KeepsOnce}
use Rattle.unit_landscape.proofs.BeginningLemmas.{state-at}
use Rattle.unit_landscape.proofs.BreachLemmas.{logs-by}

-- what is at a place within a list
get-inside : {A : Type 0} (xs : List A) (k : ℕ) → k < length xs → (x : A) × (slice_get xs k ≡ Some x)
get-inside [] k less = absurd (omega arith)
get-inside (x ∷ xs) zero less = (x, refl)
get-inside (x ∷ xs) (suc k) less = get-inside xs k (omega arith)

-- a state among those with which a world begins is up, with its log
state-first : (logs : List (List Record)) (k : ℕ) (state : SystemState) → slice_get (map first_state logs) k ≡ Some state → state ≡ first_state state.log
state-first [] k state known = absurd (none-some state known)
state-first (log ∷ logs) zero state known =
    let same : first_state log ≡ state = same_Some (first_state log) state known in
    subst (λ (s : SystemState). s ≡ first_state s.log) same refl
state-first (log ∷ logs) (suc k) state known = state-first logs k state known

-- a log that is not empty is that of its system as it begins
begun-same : (text : List ℕ) (system : ℕ) (log : List Record) → log ≢ [] → log ≡ begun_log text system log
begun-same text system [] there = absurd (there refl)
begun-same text system (first ∷ rest) there = refl

-- at first no system has begun
pub from-none : (text : List ℕ) (logs : ℕ → List Record) → AreBegunFrom text zero logs logs
from-none text logs = record { begun = λ system least most. absurd (omega arith); others = λ system more. refl }

-- a system whose log is not empty has begun as it was
pub from-there : (text : List ℕ) (count : ℕ) (before after : ℕ → List Record) → AreBegunFrom text count before after → after (suc count) ≢ []
    → AreBegunFrom text (suc count) before after
from-there text count before after from there = record {
  begun = λ system least most. elim (cases_eq system (suc count)) [
    | inl same ↦
        subst (λ n. after n ≡ begun_log text n (before n)) (sym same)
        (let stays = from.others (suc count) (omega arith) in
        stays ∙ begun-same text (suc count) (before (suc count)) (subst (λ (log : List Record). log ≢ []) stays there))
    | inr differs ↦ from.begun system least (omega arith)
  ];
  others = λ system more. from.others system (omega arith);
}

-- one whose log is empty begins with its Genesis
pub from-next : (text : List ℕ) (count : ℕ) (before logs after : ℕ → List Record) → AreBegunFrom text count before logs → logs (suc count) ≡ []
    → Joins logs after (suc count) (Genesis (suc count) text) → AreBegunFrom text (suc count) before after
from-next text count before logs after from empty joins = record {
  begun = λ system least most. elim (cases_eq system (suc count)) [
    | inl same ↦
        subst (λ n. after n ≡ begun_log text n (before n)) (sym same)
        (let was : before (suc count) ≡ [] = sym (from.others (suc count) (omega arith)) ∙ empty in
        joins.here ∙ ap (λ (log : List Record). log ++ Genesis (suc count) text ∷ []) empty ∙ ap (begun_log text (suc count)) (sym was))
    | inr differs ↦ joins.elsewhere system differs ∙ from.begun system least (omega arith)
  ];
  others = λ system more.
      let differs : system ≢ suc count = λ same. omega (arith, same, more) in
      joins.elsewhere system differs ∙ from.others system (omega arith);
}

-- a Genesis takes in, executes, finishes, forgets and ends nothing
genesis-joins : {R : Type 0} (rules : Meaning) (world : World R) (system number : ℕ) (text : List ℕ)
    → MayJoin (committed_by rules world) (log_of world) system (Genesis number text)
genesis-joins rules world system number text = record {
  takes = λ unit taken. absurd (none-some unit taken);
  executes = λ tid executed. absurd (none-some tid executed);
  runs = λ unit taken. absurd (none-some unit taken);
  finishes = λ tid finishes. absurd (none-some tid finishes);
  forgets = λ tid forgets. absurd (none-some tid forgets);
  ends = λ tid ends. absurd (none-some tid ends);
}

module _ {R : Type 0} (meaning : R → Meaning) (lawful : (rules : R) → IsLawful (meaning rules)) (world : World R) where
  abbrev rules : Meaning
  rules = meaning world.rules

  -- what is opened and keeps the law may begin
  pub begun-none : length world.systems ≡ rules.systems → BeginsLegal meaning world → KeepsOnce rules world → HaveBegun meaning zero world
  begun-none all begins once = record {
    all = all;
    begins = begins;
    once = once;
    begun = λ system least most. absurd (omega arith);
  }

  module _ (count : ℕ) (is : HaveBegun meaning count world) where
    -- a system whose log is not empty has begun
    pub begun-there : log_of world (suc count) ≢ [] → HaveBegun meaning (suc count) world
    begun-there there = record {
      all = is.all;
      begins = is.begins;
      once = is.once;
      begun = λ system least most. elim (cases_eq system (suc count)) [
        | inl same ↦ subst (λ s. log_of world s ≢ []) (sym same) there
        | inr differs ↦ is.begun system least (omega arith)
      ];
    }

    -- where all have begun the world is safe
    pub IsSafe-begun_all : rules.systems ≤ count → IsSafe meaning world
    IsSafe-begun_all every =
        Safe-of_logs meaning world.rules (logs_of world) world is.begins.world (length-map world.systems (λ (state : SystemState). state.log) ∙ is.all)
        (Sound-same rules (log_of world) (of_system (logs_of world)) (logs-by world.systems) (record {
          legal = is.begins.legal;
          begun = λ system least most. is.begun system least (omega (arith, most, every));
          once = is.once;
        }))

    -- no unit is claimed
    pub begins-no_claims : world.claims ≡ []
    begins-no_claims = ap (λ (w : World R). w.claims) is.begins.world

    module _ (system : ℕ) (least : 1 ≤ system) (most : system ≤ rules.systems) (empty : log_of world system ≡ []) where
      -- a system whose log is empty is up with it
      pub begins-empty : slice_get world.systems (system - 1) ≡ Some (first_state [])
      begins-empty =
          let inside : system - 1 < length world.systems = let all = is.all in omega (arith, least, most, all) in
          let found = get-inside world.systems (system - 1) inside in
          let state : SystemState = found.0 in
          let known : state_of world.systems system ≡ Some state = state-at world.systems system least ∙ found.1 in
          let log : state.log ≡ [] = sym (ap log_or_none known) ∙ empty in
          let first : state ≡ first_state state.log = state-first (logs_of world) (system - 1) state
          (sym (ap (λ (w : World R). slice_get w.systems (system - 1)) is.begins.world) ∙ found.1) in
          found.1 ∙ ap (λ (s : SystemState). Some s) (first ∙ ap first_state log)

      begins-known : state_of world.systems system ≡ Some (first_state [])
      begins-known = state-at world.systems system least ∙ begins-empty

      module _ (text : List ℕ) where
        abbrev genesis : Record
        genesis = Genesis system text

        abbrev states : List SystemState
        states = slice_set world.systems (system - 1) (first_state (genesis ∷ []))

        -- the world in which the system has its Genesis
        abbrev after : World R
        after = record world { systems = states }

        is_after : with_record world system genesis ≡ after
        is_after = with_state-known world system (state_with genesis) (first_state []) begins-known

        joins : Joins (log_of world) (log_of after) system genesis
        joins = subst (λ (w : World R). Joins (log_of world) (log_of w) system genesis) is_after
            (joins-with_state world system (state_with genesis) (first_state []) begins-known genesis refl)

        -- its Genesis has joined its log
        pub joins-begun : Joins (log_of world) (log_of (with_record world system genesis)) system genesis
        joins-begun = joins-with_state world system (state_with genesis) (first_state []) begins-known genesis refl

        sides : slice_set (map first_state (logs_of world)) (system - 1) (first_state (genesis ∷ [])) ≡ map first_state (logs_of after)
        sides =
            sym (ap (map first_state) (map-set (λ (state : SystemState). state.log) world.systems (system - 1) (first_state (genesis ∷ [])))
            ∙ map-set first_state (logs_of world) (system - 1) (genesis ∷ []))

        may : may_follow rules system (log_of world system) genesis ≡ true
        may = subst (λ log. may_follow rules system log genesis ≡ true) (sym empty) (eq-eqb system system refl)

        begins-after : BeginsLegal meaning after
        begins-after = record {
          world =
              ap (λ (w : World R). let next : World R = record w { systems = slice_set w.systems (system - 1) (first_state (genesis ∷ [])) } in next)
              is.begins.world
              ∙ ap (λ (all : List SystemState). let next : World R = record (first_world world.rules []) { systems = all } in next) sides;
          legal = at_each (log_of world) (log_of after) system genesis joins (IsLegal rules) is.begins.legal
              (subst (λ log. IsLegal rules system (log ++ genesis ∷ [])) (sym empty) (eq-eqb system system refl, tt));
        }

        once-after : KeepsOnce rules after
        once-after =
            Once-joins (committed_by rules world) (committed_by rules after) (log_of world) (log_of after) system genesis
            (λ s. committed-NoneTwice rules (lawful world.rules) s (log_of world s) (is.begins.legal s)) is.once
            (genesis-joins rules world system system text) joins
            (at_each (log_of world) (log_of after) system genesis joins (λ s log. IsPrefix (committed_by rules world s) (rules.committed s log))
            (λ s. IsPrefix-same (committed_by rules world s))
            (committed-grows rules (lawful world.rules) system (log_of world system) (is.begins.legal system) genesis may))

        -- with its Genesis the next system has begun
        pub begun-next : system ≡ suc count → HaveBegun meaning (suc count) (with_record world system genesis)
        begun-next next = subst (HaveBegun meaning (suc count)) (sym is_after) (record {
          all = ap (λ (w : World R). length w.systems) (sym is_after) ∙ length-with_record ∙ is.all;
          begins = begins-after;
          once = once-after;
          begun = λ s least_s most_s. elim (cases_eq s system) [
            | inl same ↦ subst (λ n. log_of after n ≢ []) (sym same)
                (subst (λ log. log ≢ []) (sym joins.here) (push_not_empty (log_of world system) genesis))
            | inr differs ↦ subst (λ log. log ≢ []) (sym (joins.elsewhere s differs)) (is.begun s least_s (omega (arith, most_s, next, differs)))
          ];
        })
          where
            length-with_record : length (with_record world system genesis).systems ≡ length world.systems
            length-with_record = length-with_state world system (state_with genesis) (first_state []) begins-known

-- ---- the same by what the call answers

module _ {R A V : Type 0} (meaning : R → Meaning) (lawful : (rules : R) → IsLawful (meaning rules)) (before after : KeptOf R A V) (system : ℕ)
    (is : HaveBegun meaning (system - 1) before.world) (least : 1 ≤ system) (most : system ≤ (meaning before.world.rules).systems)
    (empty : log_of before.world system ≡ []) (text : List ℕ) where
  number : system ≡ suc (system - 1)
  number = omega (arith, least)

  -- where it answers that the system has begun, so many have
  pub begun-by : {T : Type 0} (result : Result T BeginEnd) → BegunAs before after system text result → OnOk result (HaveBegun meaning system after.world)
  begun-by (Ok done) did =
      subst (HaveBegun meaning system) (sym did.0)
      (subst (λ n. HaveBegun meaning n (with_record before.world system (Genesis system text))) (sym number)
      (begun-next meaning lawful before.world (system - 1) is system least most empty text number))
  begun-by (Err end) did = tt

  -- and the logs are those of before, each empty one of these with its Genesis
  pub from-by : {T : Type 0} (result : Result T BeginEnd) (logs : ℕ → List Record) → BegunAs before after system text result
      → AreBegunFrom text (system - 1) logs (log_of before.world) → OnOk result (AreBegunFrom text system logs (log_of after.world))
  from-by (Ok done) logs did from =
      let begun : World R = with_record before.world system (Genesis system text) in
      subst (λ (w : World R). AreBegunFrom text system logs (log_of w)) (sym did.0)
      (subst (λ n. AreBegunFrom text n logs (log_of begun)) (sym number)
      (from-next text (system - 1) logs (log_of before.world) (log_of begun) from (subst (λ n. log_of before.world n ≡ []) number empty)
      (subst (λ n. Joins (log_of before.world) (log_of begun) n (Genesis n text)) number
      (joins-begun meaning lawful before.world (system - 1) is system least most empty text))))
  from-by (Err end) logs did from = tt
