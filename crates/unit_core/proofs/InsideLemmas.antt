-- What a legal log keeps alone: it took no unit twice, and it executed units in the order of their inbound queues.
use Rattle.std.specs.Prelude.{Contains, All}
use Rattle.std.specs.List.{filter_map}
use Rattle.std.proofs.Common.{◌≡◌, ℕ, true, false, Some, None, List, [], ◌∷◌, ◌++◌, length, take, inl, inr, ◌⊎◌, refl, sym, ap, subst}
use Rattle.std.proofs.Common.{◌∙◌, arith, append_assoc}
use Rattle.std.proofs.lemmas.Bool.{cases_Bool, cases_lt, both_ways, false_from_ne_true}
use Rattle.std.proofs.lemmas.List.{map-append, take-append-le, take_all, length-append, append-nil}
use Rattle.std.proofs.lemmas.List.Elements.{All-push, All-weaker, All-contains, Contains-push}
use Rattle.std.proofs.lemmas.Option.{none-some}
use Rattle.ale_base.specs.Tid.{TidOf, is_tid}
use Rattle.ale_base.specs.Prefix.{IsPrefix}
use Rattle.ale_base.proofs.OptionLemmas.{none_or_some}
use Rattle.ale_base.proofs.MemberLemmas.{Contains-map, Contains-map_back, Contains-filter, Contains-filter_back, filter_map-None, filter_map-Some, filter-kept}
use Rattle.ale_base.proofs.MemberLemmas.{filter-left_out, filter_map-agree, filter_map-Contains, filter_map-Contains_back, find-longer}
use Rattle.ale_base.proofs.PrefixLemmas.{IsPrefix-trans, IsPrefix-filter, IsPrefix-Contains, IsPrefix-filter_map}
use Rattle.unit_core.specs.declared.ale_unit.AleUnit.{AleUnit}
use Rattle.unit_core.specs.declared.records.Record.{Record}
use Rattle.unit_core.specs.declared.records.Record.TheVariants.{Accept, Execute, Direct}
use Rattle.unit_core.specs.declared.queue.Queue.{Queue}
use Rattle.unit_core.specs.declared.queue.Queue.TheVariants.{Inbound}
use Rattle.unit_core.specs.Filters.{taken_by, executed_by, received, executed}
use Rattle.unit_core.specs.Queues.{is_listed, is_among, unit_named, tids_of, has_name, stands_in, in_queue, heads_inbound}
use Rattle.unit_core.specs.Once.{NoneTwice, TakenOnce, executed_units, ExecutedInOrder}
use Rattle.unit_core.proofs.TidLemmas.{is_listed-Contains, Contains-is_listed, is_among-listed, is_among-Contains, Contains-is_among, unit_named-Some}
use Rattle.unit_core.proofs.TidLemmas.{unit_named-Contains, NoneTwice-push}
use Rattle.unit_core.proofs.QueueLemmas.{is_head-inbound, next_of_queue}
use Rattle.unit_core.specs.Inside.{JoinsInside, AllJoinInside, IsLegalInside, IsOnceInside}

-- a unit that was received may be executed: it is not yet, and it heads its inbound queues
pub record MayExecute (log : List Record) (tid : TidOf) : Type 0 where
  pub unit : AleUnit
  pub named : unit_named tid (received log) ≡ Some unit
  pub open_ : is_listed tid (executed log) ≡ false
  pub heads : heads_inbound (executed log) (received log) unit ≡ true

-- a unit with no inbound queue may be taken in and executed in one record
pub record MayRun (next : Record) (tid : TidOf) : Type 0 where
  pub unit : AleUnit
  pub taken : taken_by next ≡ Some unit
  pub its_tid : unit.tid ≡ tid
  pub direct : unit.inq ≡ []

-- ---- what a record executes

executes_so : (log : List Record) (next : Record) → JoinsInside log next → (tid : TidOf) → executed_by next ≡ Some tid
    → ((taken_by next ≡ None) × MayExecute log tid) ⊎ MayRun next tid
executes_so log (Execute t) may tid executes =
    let same : t ≡ tid = cc in
    let free = may.free t refl in
    inl (refl, subst (MayExecute log) same (record { unit = free.0; named = free.1; open_ = free.2; heads = free.3 }))
executes_so log (Direct unit) may tid executes = inr (record { unit = unit; taken = refl; its_tid = cc; direct = may.direct unit refl })
executes_so log _ may tid executes = cc

runs_so : (log : List Record) (next : Record) → JoinsInside log next → (unit : AleUnit) → taken_by next ≡ Some unit
    → executed_by next ≡ None ⊎ ((executed_by next ≡ Some unit.tid) × (unit.inq ≡ []))
runs_so log (Accept u) may unit takes = inl refl
runs_so log (Direct u) may unit takes =
    let same : u ≡ unit = cc in
    inr (ap (λ (v : AleUnit). Some v.tid) same, subst (λ (v : AleUnit). v.inq ≡ []) same (may.direct u refl))
runs_so log _ may unit takes = cc

-- ---- one record more

module _ (log : List Record) (next : Record) (taken : TakenOnce log) (inside : ExecutedInOrder log) (may : JoinsInside log next) where
  pub taken_once : TakenOnce (log ++ next ∷ [])
  taken_once =
      elim (none_or_some (taken_by next)) [
        | inl none ↦ subst (λ units. NoneTwice (tids_of units)) (sym (filter_map-None taken_by log next none)) taken
        | inr some ↦ subst (λ units. NoneTwice (tids_of units)) (sym (filter_map-Some taken_by log next some.0 some.1))
            (subst NoneTwice (sym (map-append (λ u. u.tid) (received log) (some.0 ∷ [])))
            (NoneTwice-push (tids_of (received log)) some.0.tid taken (sym (is_among-listed some.0.tid (received log)) ∙ may.new some.0 some.1)))
      ]

  -- what was executed was received
  executed_was_received : All (λ tid. Contains (tids_of (received log)) tid) (executed log)
  executed_was_received =
      subst (λ log. All (λ tid. Contains (tids_of (received log)) tid) (executed log)) (take_all (length log) log (omega arith))
      (inside.was_received (length log))

  -- the unit of an id that was executed is found among those received
  executed_is_found : (tid : TidOf) → Contains (executed log) tid → (unit : AleUnit) × (unit_named tid (received log) ≡ Some unit)
  executed_is_found tid has =
      let back = Contains-map_back (λ u. u.tid) (received log) tid
      (All-contains (λ t. Contains (tids_of (received log)) t) (executed log) tid executed_was_received has) in (
        back.0,
        subst (λ t. unit_named t (received log) ≡ Some back.0) back.2
            (unit_named-Contains (received log) back.0 (taken) back.1),
      )

  received_tids_grow : (tid : TidOf) → Contains (tids_of (received log)) tid → Contains (tids_of (received (log ++ next ∷ []))) tid
  received_tids_grow tid has =
      let back = Contains-map_back (λ u. u.tid) (received log) tid has in
      let there = IsPrefix-Contains (received log) (received (log ++ next ∷ [])) back.0
      (IsPrefix-filter_map taken_by log (log ++ next ∷ []) (next ∷ [], refl)) back.1 in
      subst (Contains (tids_of (received (log ++ next ∷ [])))) back.2 (Contains-map (λ u. u.tid) (received (log ++ next ∷ [])) back.0 there)

  -- the id that a record executes was received, in this record or before
  next_was_received : (tid : TidOf) → executed_by next ≡ Some tid → Contains (tids_of (received (log ++ next ∷ []))) tid
  next_was_received tid executes =
      elim (executes_so log next may tid executes) [
        | inl before ↦ let named = unit_named-Some tid (received log) before.1.unit before.1.named in
            received_tids_grow tid (subst (Contains (tids_of (received log))) named.1
            (Contains-map (λ u. u.tid) (received log) before.1.unit named.0))
        | inr run ↦ subst (Contains (tids_of (received (log ++ next ∷ [])))) run.its_tid
            (Contains-map (λ u. u.tid) (received (log ++ next ∷ [])) run.unit
            (subst (λ units. Contains units run.unit) (sym (filter_map-Some taken_by log next run.unit run.taken))
            (Contains-push (received log) run.unit)))
      ]

  all_received : All (λ tid. Contains (tids_of (received (log ++ next ∷ []))) tid) (executed (log ++ next ∷ []))
  all_received =
      let P : TidOf → Type 0 = λ tid. Contains (tids_of (received (log ++ next ∷ []))) tid in
      let before : All P (executed log) = All-weaker (λ tid. Contains (tids_of (received log)) tid) P received_tids_grow
      (executed log) executed_was_received in
      elim (none_or_some (executed_by next)) [
        | inl none ↦ subst (All P) (sym (filter_map-None executed_by log next none)) before
        | inr some ↦ subst (All P) (sym (filter_map-Some executed_by log next some.0 some.1))
            (All-push P (executed log) some.0 before (next_was_received some.0 some.1))
      ]

  was_received : (n : ℕ) → All (λ tid. Contains (tids_of (received (take n (log ++ next ∷ [])))) tid) (executed (take n (log ++ next ∷ [])))
  was_received n =
      let P : List Record → Type 0 = λ log. All (λ tid. Contains (tids_of (received log)) tid) (executed log) in
      elim (cases_lt (length log) n) [
        | inl behind ↦ subst P (sym (take_all n (log ++ next ∷ []) (omega (arith, length-append log (next ∷ []))))) all_received
        | inr within ↦ subst P (sym (take-append-le n log (next ∷ []) within)) (inside.was_received n)
      ]

  -- an id that is not among those received is not among those executed
  new_not_executed : (tid : TidOf) → is_among tid (received log) ≡ false → is_listed tid (executed log) ≡ false
  new_not_executed tid new =
      false_from_ne_true (is_listed tid (executed log)) (λ listed.
      both_ways (is_among tid (received log)) new
      (is_among-listed tid (received log) ∙ is_listed-Contains tid (tids_of (received log))
      (All-contains (λ t. Contains (tids_of (received log)) t) (executed log) tid executed_was_received
      (Contains-is_listed tid (executed log) listed))))

  not_executed : (tid : TidOf) → executed_by next ≡ Some tid → is_listed tid (executed log) ≡ false
  not_executed tid executes =
      elim (executes_so log next may tid executes) [
        | inl before ↦ before.1.open_
        | inr run ↦ new_not_executed tid (subst (λ t. is_among t (received log) ≡ false) run.its_tid (may.new run.unit run.taken))
      ]

  executed_once : NoneTwice (executed (log ++ next ∷ []))
  executed_once =
      elim (none_or_some (executed_by next)) [
        | inl none ↦ subst NoneTwice (sym (filter_map-None executed_by log next none)) inside.once
        | inr some ↦ subst NoneTwice (sym (filter_map-Some executed_by log next some.0 some.1))
            (NoneTwice-push (executed log) some.0 inside.once (not_executed some.0 some.1))
      ]

  -- the units executed so far are the same, where a unit more was received
  same_executed_units : (unit : AleUnit)
      → filter_map (λ tid. unit_named tid (received log ++ unit ∷ [])) (executed log) ≡ executed_units log
  same_executed_units unit =
      filter_map-agree (λ tid. unit_named tid (received log ++ unit ∷ [])) (λ tid. unit_named tid (received log)) (executed log)
      (λ tid has. let found = executed_is_found tid has in
      find-longer (λ u. is_tid u.tid tid) (received log) (unit ∷ []) found.0 found.1 ∙ sym found.1)

  -- a unit of an inbound queue that was executed stands among the units executed of the queue
  executed_of_queue : (name : List ℕ) (v : AleUnit) → Contains (received log) v → stands_in (Inbound name) v ≡ true
      → is_listed v.tid (executed log) ≡ true → is_among v.tid (in_queue (Inbound name) (executed_units log)) ≡ true
  executed_of_queue name v has stands listed =
      is_among-Contains v (in_queue (Inbound name) (executed_units log))
      (Contains-filter (stands_in (Inbound name)) (executed_units log) v
      (filter_map-Contains (λ tid. unit_named tid (received log)) (executed log) v.tid v
      (Contains-is_listed v.tid (executed log) listed) (unit_named-Contains (received log) v (taken) has))
      stands)

  not_among_executed : (name : List ℕ) (tid : TidOf) → is_listed tid (executed log) ≡ false
      → is_among tid (in_queue (Inbound name) (executed_units log)) ≡ false
  not_among_executed name tid open_ =
      false_from_ne_true (is_among tid (in_queue (Inbound name) (executed_units log))) (λ among.
      let found = Contains-is_among tid (in_queue (Inbound name) (executed_units log)) among in
      let back = Contains-filter_back (stands_in (Inbound name)) (executed_units log) found.0 found.1 in
      let made = filter_map-Contains_back (λ t. unit_named t (received log)) (executed log) found.0 back.0 in
      let its : found.0.tid ≡ made.0 = (unit_named-Some made.0 (received log) found.0 made.2).1 in
      both_ways (is_listed tid (executed log)) open_
      (is_listed-Contains tid (executed log) (subst (Contains (executed log)) (sym its ∙ found.2) made.1)))

  executed_next : (name : List ℕ) (tid : TidOf) (execute : MayExecute log tid) → stands_in (Inbound name) execute.unit ≡ true
      → IsPrefix (in_queue (Inbound name) (executed_units log) ++ execute.unit ∷ []) (in_queue (Inbound name) (received log))
  executed_next name tid execute stands =
      let named = unit_named-Some tid (received log) execute.unit execute.named in
      next_of_queue (executed log) (received log) (in_queue (Inbound name) (executed_units log)) (Inbound name) execute.unit
      (taken) (inside.in_order name) named.0
      (is_head-inbound (executed log) (received log) execute.unit name execute.heads stands)
      (executed_of_queue name)
      (not_among_executed name execute.unit.tid (subst (λ t. is_listed t (executed log) ≡ false) (sym named.1) execute.open_))

  abbrev InOrder : List ℕ → List AleUnit → List TidOf → Type 0
  InOrder name units tids = IsPrefix (in_queue (Inbound name) (filter_map (λ tid. unit_named tid units) tids)) (in_queue (Inbound name) units)

  -- a unit is executed that was received before
  in_order-executed : (name : List ℕ) (tid : TidOf) → MayExecute log tid → InOrder name (received log) (executed log ++ tid ∷ [])
  in_order-executed name tid execute =
      let queue : Queue = Inbound name in
      subst (λ units. IsPrefix (in_queue queue units) (in_queue queue (received log)))
      (sym (filter_map-Some (λ t. unit_named t (received log)) (executed log) tid execute.unit execute.named))
      (elim (cases_Bool (stands_in queue execute.unit)) [
        | inl stands ↦ subst (λ units. IsPrefix units (in_queue queue (received log)))
            (sym (filter-kept (stands_in queue) (executed_units log) execute.unit stands))
            (executed_next name tid execute stands)
        | inr out ↦ subst (λ units. IsPrefix units (in_queue queue (received log)))
            (sym (filter-left_out (stands_in queue) (executed_units log) execute.unit out))
            (inside.in_order name)
      ])

  -- a unit is taken in, to be executed later
  in_order-taken : (name : List ℕ) (unit : AleUnit) → InOrder name (received log ++ unit ∷ []) (executed log)
  in_order-taken name unit =
      let queue : Queue = Inbound name in
      subst (λ units. IsPrefix (in_queue queue units) (in_queue queue (received log ++ unit ∷ []))) (sym (same_executed_units unit))
      (IsPrefix-trans (in_queue queue (executed_units log)) (in_queue queue (received log))
      (in_queue queue (received log ++ unit ∷ []))
      (inside.in_order name)
      (IsPrefix-filter (stands_in queue) (received log) (received log ++ unit ∷ []) (unit ∷ [], refl)))

  -- a unit with no inbound queue is taken in and executed
  in_order-run : (name : List ℕ) (unit : AleUnit) → unit.inq ≡ [] → is_among unit.tid (received log) ≡ false
      → InOrder name (received log ++ unit ∷ []) (executed log ++ unit.tid ∷ [])
  in_order-run name unit direct new =
      let queue : Queue = Inbound name in
      let out : stands_in queue unit ≡ false = ap (has_name name) direct in
      let units = received log ++ unit ∷ [] in
      let named : unit_named unit.tid (received log ++ unit ∷ []) ≡ Some unit =
      unit_named-Contains (received log ++ unit ∷ []) unit
      (subst NoneTwice (sym (map-append (λ u. u.tid) (received log) (unit ∷ [])))
      (NoneTwice-push (tids_of (received log)) unit.tid (taken) (sym (is_among-listed unit.tid (received log)) ∙ new)))
      (Contains-push (received log) unit) in
      let all : filter_map (λ t. unit_named t (received log ++ unit ∷ [])) (executed log ++ unit.tid ∷ []) ≡ executed_units log ++ unit ∷ [] =
      filter_map-Some (λ t. unit_named t (received log ++ unit ∷ [])) (executed log) unit.tid unit named
      ∙ ap (λ us. us ++ unit ∷ []) (same_executed_units unit) in
      subst (λ us. IsPrefix (in_queue queue us) (in_queue queue (received log ++ unit ∷ []))) (sym all)
      (subst (λ us. IsPrefix us (in_queue queue (received log ++ unit ∷ [])))
      (sym (filter-left_out (stands_in queue) (executed_units log) unit out))
      (subst (λ us. IsPrefix (in_queue queue (executed_units log)) us) (sym (filter-left_out (stands_in queue) (received log) unit out))
      (inside.in_order name)))

  in_order : (name : List ℕ) → InOrder name (received (log ++ next ∷ [])) (executed (log ++ next ∷ []))
  in_order name =
      elim (none_or_some (taken_by next)) [
        | inl none ↦ subst (λ units. InOrder name units (executed (log ++ next ∷ []))) (sym (filter_map-None taken_by log next none))
            (elim (none_or_some (executed_by next)) [
              | inl nothing ↦ subst (InOrder name (received log)) (sym (filter_map-None executed_by log next nothing))
                  (inside.in_order name)
              | inr some ↦ subst (InOrder name (received log)) (sym (filter_map-Some executed_by log next some.0 some.1))
                  (elim (executes_so log next may some.0 some.1) [
                    | inl before ↦ in_order-executed name some.0 before.1
                    | inr run ↦ absurd (none-some run.unit (sym none ∙ run.taken))
                  ])
            ])
        | inr some ↦ subst (λ units. InOrder name units (executed (log ++ next ∷ []))) (sym (filter_map-Some taken_by log next some.0 some.1))
            (elim (runs_so log next may some.0 some.1) [
              | inl nothing ↦ subst (InOrder name (received log ++ some.0 ∷ [])) (sym (filter_map-None executed_by log next nothing))
                  (in_order-taken name some.0)
              | inr run ↦ subst (InOrder name (received log ++ some.0 ∷ [])) (sym (filter_map-Some executed_by log next some.0.tid run.0))
                  (in_order-run name some.0 run.1 (may.new some.0 some.1))
            ])
      ]

  pub executed_in_order : ExecutedInOrder (log ++ next ∷ [])
  executed_in_order = record { was_received = was_received; once = executed_once; in_order = in_order }

-- ---- all records

nothing_executed : ExecutedInOrder []
nothing_executed = record {
  was_received = λ n. subst (λ log. All (λ tid. Contains (tids_of (received log)) tid) (executed log)) (sym (take_all n [] (omega arith))) (λ k d within. absurd (omega arith));
  once = tt;
  in_order = λ name. ([], refl);
}

joined : (before rest : List Record) → TakenOnce before → ExecutedInOrder before → AllJoinInside before rest
    → TakenOnce (before ++ rest) × ExecutedInOrder (before ++ rest)
joined before [] taken inside all = (subst TakenOnce (sym (append-nil before)) taken, subst ExecutedInOrder (sym (append-nil before)) inside)
joined before (next ∷ rest) taken inside all =
    let whole : before ++ next ∷ [] ++ rest ≡ before ++ next ∷ rest = append_assoc before (next ∷ []) rest in
    let found = joined (before ++ next ∷ []) rest (taken_once before next taken inside all.0) (executed_in_order before next taken inside all.0) all.1 in
    (subst TakenOnce whole found.0, subst ExecutedInOrder whole found.1)

-- logs whose records may each follow by what is of the log alone
pub IsOnceInside-legal : (logs : ℕ → List Record) → ((system : ℕ) → IsLegalInside (logs system)) → IsOnceInside logs
IsOnceInside-legal logs legal = record {
  taken_once = λ system. (joined [] (logs system) tt nothing_executed (legal system)).0;
  executed_in_order = λ system. (joined [] (logs system) tt nothing_executed (legal system)).1;
}
