-- What is counted beside the logs is theirs, behind an append and behind a fall.
use Rattle.std.specs.Prelude.{Result, Ok, Err, slice_get, slice_set, slice_index_or, replicate}
use Rattle.std.specs.List.{filter_map, cons_option}
use Rattle.std.proofs.Common.{◌≡◌, ◌≢◌, inl, inr, ℕ, zero, suc, ◌+◌, ◌-◌, ◌≤◌, ◌<◌, true, Option, Some, None, List, [], ◌∷◌, ◌++◌, length, refl, sym, ap, subst, ◌∙◌, arith}
use Rattle.std.proofs.lemmas.Bool.{cases_eq}
use Rattle.std.proofs.lemmas.List.{get_or-set_same, get_or-set_other, get_or-replicate, length-append, length-set}
use Rattle.std.proofs.lemmas.Option.{slice_get_within}
use Rattle.ale_base.proofs.ListLemmas.{slice_get-within}
use Rattle.ale_base.proofs.SnocLemmas.{slice_get-last}
use Rattle.ale_base.proofs.MemberLemmas.{filter_map-None, filter_map-Some}
use Rattle.unit_core.specs.declared.records.Record.{Record}
use Rattle.unit_core.specs.Filters.{received, executed, taken_by, executed_by}
use Rattle.trfc_protocol.specs.declared.world.World.{World}
use Rattle.trfc_protocol.specs.declared.world.SystemState.{SystemState}
use Rattle.trfc_protocol.specs.Meaning.{Meaning}
use Rattle.trfc_protocol.specs.Legal.{IsLawful}
use Rattle.trfc_protocol.specs.Worlds.{committed_by, log_of, log_or_none, state_of, is_up, one_fall_more, state_down, state_with, with_record, with_fall}
use Rattle.trfc_protocol.proofs.WorldLemmas.{at_each_state, is_up-known, joins-with_state}
use Rattle.unit_landscape.specs.declared.append_end.AppendEnd.{AppendEnd}
use Rattle.unit_landscape.specs.declared.append_end.AppendEnd.TheVariants.{Volume, Full, Before, After}
use Rattle.unit_landscape.specs.declared.counted.Counted.{Counted}
use Rattle.system_tables.specs.Tables.{TablesOf}
use Rattle.unit_landscape.specs.KeptWorlds.{KeptOf}
use Rattle.unit_landscape.specs.InStep.{AreInStepWith}
use Rattle.unit_landscape.specs.Counted.{sum_to, received_total, executed_total, one_if, adds_of, raised, counted_by, AreBelow, HasRoom, AreCounted}
use Rattle.unit_landscape.specs.AppendEnds.{AppendedAs}
use Rattle.unit_landscape.proofs.OnVolumesLemmas.{named_systems, up-written}
use Rattle.unit_landscape.proofs.TotalsLemmas.{sum_to-same}

-- one item more is found or not
pub count-push : {A B : Type 0} (of : A → Option B) (xs : List A) (x : A) → length (filter_map of (xs ++ x ∷ [])) ≡ length (filter_map of xs) + one_if (of x)
count-push {A} {B} of xs x = by (of x) refl
  where
    by : (found : Option B) → of x ≡ found → length (filter_map of (xs ++ x ∷ [])) ≡ length (filter_map of xs) + one_if found
    by None is = let same = ap length (filter_map-None of xs x is) in omega arith
    by (Some y) is = let same = ap length (filter_map-Some of xs x y is) in omega (arith, length-append (filter_map of xs) (y ∷ []))

-- no more are found than there are
pub count-most : {A B : Type 0} (of : A → Option B) (xs : List A) → length (filter_map of xs) ≤ length xs
count-most of [] = omega arith
count-most {A} {B} of (x ∷ xs) = by (of x) (count-most of xs)
  where
    by : (found : Option B) → length (filter_map of xs) ≤ length xs → length (cons_option found (filter_map of xs)) ≤ suc (length xs)
    by None rest = omega (arith, rest)
    by (Some y) rest = omega (arith, rest)

-- what is there counts 1 at most
pub one_if-most : {A : Type 0} (found : Option A) → one_if found ≤ 1
one_if-most None = omega arith
one_if-most (Some x) = omega arith

module _ (before after : List SystemState) (counted : Counted) (are : AreCounted before counted) where
  -- where no log has changed the counts are those of the logs
  pub counted-same : ((other : ℕ) → log_or_none (state_of after other) ≡ log_or_none (state_of before other)) → AreCounted after counted
  counted-same same = record {
    all_received = are.all_received;
    all_executed = are.all_executed;
    taken = λ other least most. are.taken other least most ∙ ap (λ log. length (received log)) (sym (same other));
    run = λ other least most. are.run other least most ∙ ap (λ log. length (executed log)) (sym (same other));
  }

  -- where one log has a record more, what it adds is counted
  pub counted-more : (system : ℕ) (next : Record) → 1 ≤ system → system ≤ 16
      → log_or_none (state_of after system) ≡ log_or_none (state_of before system) ++ next ∷ []
      → ((other : ℕ) → other ≢ system → log_or_none (state_of after other) ≡ log_or_none (state_of before other))
      → AreCounted after (raised counted (system - 1) (adds_of next))
  counted-more system next from to here elsewhere = record {
    all_received = length-set counted.received place (slice_index_or counted.received place 0 + taken_more) ∙ are.all_received;
    all_executed = length-set counted.executed place (slice_index_or counted.executed place 0 + run_more) ∙ are.all_executed;
    taken = λ other least most. elim (cases_eq other system) [
      | inl same ↦ subst (λ s. slice_index_or (raised counted place (adds_of next)).received (s - 1) 0 ≡ length (received (log_or_none (state_of after s)))) (sym same)
          (get_or-set_same counted.received place (slice_index_or counted.received place 0 + taken_more) 0 (let all = are.all_received in omega (arith, from, to))
          ∙ ap (λ n. n + taken_more) (are.taken system from to)
          ∙ sym (ap (λ log. length (received log)) here ∙ count-push taken_by (log_or_none (state_of before system)) next))
      | inr differs ↦
          get_or-set_other counted.received place (other - 1) (slice_index_or counted.received place 0 + taken_more) 0 (apart other least differs)
          ∙ are.taken other least most ∙ ap (λ log. length (received log)) (sym (elsewhere other differs))
    ];
    run = λ other least most. elim (cases_eq other system) [
      | inl same ↦ subst (λ s. slice_index_or (raised counted place (adds_of next)).executed (s - 1) 0 ≡ length (executed (log_or_none (state_of after s)))) (sym same)
          (get_or-set_same counted.executed place (slice_index_or counted.executed place 0 + run_more) 0 (let all = are.all_executed in omega (arith, from, to))
          ∙ ap (λ n. n + run_more) (are.run system from to)
          ∙ sym (ap (λ log. length (executed log)) here ∙ count-push executed_by (log_or_none (state_of before system)) next))
      | inr differs ↦
          get_or-set_other counted.executed place (other - 1) (slice_index_or counted.executed place 0 + run_more) 0 (apart other least differs)
          ∙ are.run other least most ∙ ap (λ log. length (executed log)) (sym (elsewhere other differs))
    ];
  }
    where
      place : ℕ
      place = system - 1

      taken_more : ℕ
      taken_more = one_if (taken_by next)

      run_more : ℕ
      run_more = one_if (executed_by next)

      apart : (other : ℕ) → 1 ≤ other → other ≢ system → other - 1 ≢ system - 1
      apart other least differs same = differs (let one = from in omega (arith, same))

module _ {R : Type 0} (world : World R) (system : ℕ) (up : is_up world system ≡ true) where
  -- a fall leaves each log
  logs-fell : (rest : Option Record) (other : ℕ) → log_of (with_fall world system rest) other ≡ log_of world other
  logs-fell rest other =
      let known = is_up-known world system up in
      let bare : World R = record world { claims = []; falls = one_fall_more world.falls } in
      at_each_state bare system (state_down rest) known.0 known.1 (λ s found. log_or_none found ≡ log_of world s) (sym (ap log_or_none known.1))
      (λ s differs. refl) other

  pub counted-fell : (rest : Option Record) (counted : Counted) → AreCounted world.systems counted → AreCounted (with_fall world system rest).systems counted
  counted-fell rest counted are = counted-same world.systems (with_fall world system rest).systems counted are (logs-fell rest)

  counted-joined : (next : Record) (counted : Counted) → 1 ≤ system → system ≤ 16 → AreCounted world.systems counted
      → AreCounted (with_record world system next).systems (raised counted (system - 1) (adds_of next))
  counted-joined next counted from to are =
      let known = is_up-known world system up in
      let joins = joins-with_state world system (state_with next) known.0 known.1 next refl in
      counted-more world.systems (with_record world system next).systems counted are system next from to joins.here joins.elsewhere

  -- the counts are below the number of records where one has joined
  below-joined : (next : Record) (counted : Counted) (records : ℕ) → 1 ≤ system → system ≤ 16 → AreCounted world.systems counted
      → records ≡ length (log_of (with_record world system next) system) → AreBelow counted (system - 1) records
  below-joined next counted records from to are count =
      let known = is_up-known world system up in
      let joins = joins-with_state world system (state_with next) known.0 known.1 next refl in
      let long = count ∙ ap length joins.here in
      let one_more = length-append (log_of world system) (next ∷ []) in
      record {
        received = let is = are.taken system from to in let most = count-most taken_by (log_of world system) in omega (arith, is, most, long, one_more);
        executed = let is = are.run system from to in let most = count-most executed_by (log_of world system) in omega (arith, is, most, long, one_more);
      }

-- behind an append the counts are those of the logs
pub counted-appended : {R T : Type 0} (world after : World R) (system : ℕ) (next : Record) (claim : Option ℕ) (counted : Counted) (result : Result T AppendEnd)
    → is_up world system ≡ true → 1 ≤ system → system ≤ 16 → AppendedAs world after system next claim result → AreCounted world.systems counted
    → AreCounted after.systems (counted_by counted (system - 1) (adds_of next) result)
counted-appended {R} world then system next claim counted (Ok done) up from to did are =
    subst (λ systems. AreCounted systems (raised counted (system - 1) (adds_of next)))
    (sym (ap (λ (w : World R). w.systems) did ∙ named_systems (with_record world system next) claim))
    (counted-joined world system up next counted from to are)
counted-appended {R} world then system next claim counted (Err Volume) up from to did are =
    subst (λ (w : World R). AreCounted w.systems counted) (sym did) (counted-fell world system up (Some next) counted are)
counted-appended {R} world then system next claim counted (Err (Full size)) up from to did are = subst (λ (w : World R). AreCounted w.systems counted) (sym did) are
counted-appended {R} world then system next claim counted (Err Before) up from to did are = subst (λ (w : World R). AreCounted w.systems counted) (sym did) are
counted-appended {R} world then system next claim counted (Err After) up from to did are =
    subst (λ (w : World R). AreCounted w.systems (raised counted (system - 1) (adds_of next))) (sym did)
    (counted-fell (with_record world system next) system (up-written world system next up) None (raised counted (system - 1) (adds_of next))
    (counted-joined world system up next counted from to are))

-- and there is room for what is counted
pub room-appended : {R T : Type 0} (world after : World R) (system : ℕ) (next : Record) (claim : Option ℕ) (counted : Counted) (records : ℕ)
    (result : Result T AppendEnd)
    → is_up world system ≡ true → 1 ≤ system → system ≤ 16 → AppendedAs world after system next claim result → AreCounted world.systems counted
    → records ≡ length (log_of after system) → HasRoom counted (system - 1) records result
room-appended {R} world then system next claim counted records (Ok done) up from to did are count =
    below-joined world system up next counted records from to are
    (count ∙ ap (λ (w : World R). length (log_of w system)) did
    ∙ ap (λ (systems : List SystemState). length (log_or_none (state_of systems system))) (named_systems (with_record world system next) claim))
room-appended world then system next claim counted records (Err Volume) up from to did are count = tt
room-appended world then system next claim counted records (Err (Full size)) up from to did are count = tt
room-appended world then system next claim counted records (Err Before) up from to did are count = tt
room-appended {R} world then system next claim counted records (Err After) up from to did are count =
    below-joined world system up next counted records from to are
    (count ∙ ap (λ (w : World R). length (log_of w system)) did
    ∙ ap length (logs-fell (with_record world system next) system (up-written world system next up) None system))

-- ---- the counts of logs that are there

-- no count stands of no system
pub counted-none : (counted : Counted) → counted.received ≡ replicate 16 0 → counted.executed ≡ replicate 16 0 → AreCounted [] counted
counted-none counted no_received no_executed = record {
  all_received = ap length no_received;
  all_executed = ap length no_executed;
  taken = λ system least most. ap (λ l. slice_index_or l (system - 1) 0) no_received ∙ get_or-replicate 16 (system - 1) 0 0 (omega (arith, least, most))
      ∙ sym (ap (λ found. length (received (log_or_none found))) (nowhere system));
  run = λ system least most. ap (λ l. slice_index_or l (system - 1) 0) no_executed ∙ get_or-replicate 16 (system - 1) 0 0 (omega (arith, least, most))
      ∙ sym (ap (λ found. length (executed (log_or_none found))) (nowhere system));
}
  where
    nowhere : (system : ℕ) → state_of [] system ≡ None
    nowhere zero = refl
    nowhere (suc k) = refl

-- ---- one system more among those that are counted

-- what is at each other place is as before
at-push : {A : Type 0} (xs : List A) (x : A) (k : ℕ) → k ≢ length xs → slice_get (xs ++ x ∷ []) k ≡ slice_get xs k
at-push [] x zero differs = absurd (differs refl)
at-push [] x (suc k) differs = refl
at-push (y ∷ ys) x zero differs = refl
at-push (y ∷ ys) x (suc k) differs = at-push ys x k (λ same. differs (ap suc same))

-- the state of each other system is as before
pub state-push : (systems : List SystemState) (state : SystemState) (other : ℕ) → 1 ≤ other → other - 1 ≢ length systems
    → state_of (systems ++ state ∷ []) other ≡ state_of systems other
state-push systems state zero least differs = absurd (omega arith)
state-push systems state (suc k) least differs = at-push systems state k (λ same. differs (let less : suc k - 1 ≡ k = omega arith in less ∙ same))

-- that of the system itself
pub state-last : (systems : List SystemState) (state : SystemState) (other : ℕ) → 1 ≤ other → other - 1 ≡ length systems
    → state_of (systems ++ state ∷ []) other ≡ Some state
state-last systems state zero least same = absurd (omega arith)
state-last systems state (suc k) least same =
    let less : k ≡ length systems = omega (arith, same) in
    slice_get-last systems k state less

pub counted-push : (systems : List SystemState) (state : SystemState) (counted : Counted) → length systems < 16 → AreCounted systems counted
    → AreCounted (systems ++ state ∷ []) (record {
      received = slice_set counted.received (length systems) (length (received state.log));
      executed = slice_set counted.executed (length systems) (length (executed state.log));
    })
counted-push systems state counted room are = record {
  all_received = length-set counted.received (length systems) (length (received state.log)) ∙ are.all_received;
  all_executed = length-set counted.executed (length systems) (length (executed state.log)) ∙ are.all_executed;
  taken = λ other least most. elim (cases_eq (other - 1) (length systems)) [
    | inl same ↦
        ap (λ k. slice_index_or (slice_set counted.received (length systems) (length (received state.log))) k 0) same
        ∙ get_or-set_same counted.received (length systems) (length (received state.log)) 0 (let all = are.all_received in omega (arith, room))
        ∙ sym (ap (λ found. length (received (log_or_none found))) (state-last systems state other least same))
    | inr differs ↦
        get_or-set_other counted.received (length systems) (other - 1) (length (received state.log)) 0 differs ∙ are.taken other least most
        ∙ sym (ap (λ found. length (received (log_or_none found))) (state-push systems state other least differs))
  ];
  run = λ other least most. elim (cases_eq (other - 1) (length systems)) [
    | inl same ↦
        ap (λ k. slice_index_or (slice_set counted.executed (length systems) (length (executed state.log))) k 0) same
        ∙ get_or-set_same counted.executed (length systems) (length (executed state.log)) 0 (let all = are.all_executed in omega (arith, room))
        ∙ sym (ap (λ found. length (executed (log_or_none found))) (state-last systems state other least same))
    | inr differs ↦
        get_or-set_other counted.executed (length systems) (other - 1) (length (executed state.log)) 0 differs ∙ are.run other least most
        ∙ sym (ap (λ found. length (executed (log_or_none found))) (state-push systems state other least differs))
  ];
}

-- ---- all systems together

module _ {R A V : Type 0} (meaning : R → Meaning) (lawful : (r : R) → IsLawful (meaning r)) (stands : A → List Record → Type 0) (kept : KeptOf R A V)
    (counted : Counted) (count : ℕ) (in_step : AreInStepWith stands meaning kept.world kept.tables) (are : AreCounted kept.world.systems counted)
    (all : length kept.world.systems ≡ (meaning kept.world.rules).systems) (many : count ≡ length kept.tables) where
  every : count ≡ (meaning kept.world.rules).systems
  every = many ∙ in_step.all ∙ all

  -- the counts of as many systems as have tables are those of all
  pub sum-received : sum_to (λ system. slice_index_or counted.received (system - 1) 0) count ≡ received_total (meaning kept.world.rules) kept.world
  sum-received =
      ap (sum_to (λ system. slice_index_or counted.received (system - 1) 0)) every
      ∙ sum_to-same (λ system. slice_index_or counted.received (system - 1) 0) (λ system. length (received (log_of kept.world system)))
      (meaning kept.world.rules).systems
      (λ system least most. are.taken system least (let few = (lawful kept.world.rules).systems_most in omega (arith, most, few)))

  pub sum-executed : sum_to (λ system. slice_index_or counted.executed (system - 1) 0) count ≡ executed_total (meaning kept.world.rules) kept.world
  sum-executed =
      ap (sum_to (λ system. slice_index_or counted.executed (system - 1) 0)) every
      ∙ sum_to-same (λ system. slice_index_or counted.executed (system - 1) 0) (λ system. length (executed (log_of kept.world system)))
      (meaning kept.world.rules).systems
      (λ system least most. are.run system least (let few = (lawful kept.world.rules).systems_most in omega (arith, most, few)))

  -- a system has committed as many units as its tables have
  pub units-at : (place : ℕ) (its : TablesOf A) → slice_get kept.tables place ≡ Some its
      → length its.units ≡ length (committed_by (meaning kept.world.rules) kept.world (suc place))
  units-at place its got =
      let within = slice_get_within kept.tables place its got in
      let state = slice_get-within kept.world.systems place (let same = in_step.all in omega (arith, within, same)) in
      ap length (in_step.each place state.0 its state.1 got).units
      ∙ ap (λ log. length ((meaning kept.world.rules).committed (suc place) log)) (sym (ap log_or_none state.1))
