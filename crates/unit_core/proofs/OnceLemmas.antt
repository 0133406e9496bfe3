-- The exactly-once law stays where one record joins the log of one system.
use Rattle.std.specs.Prelude.{Contains, All}
use Rattle.std.specs.List.{filter_map}
use Rattle.std.proofs.Common.{◌≡◌, ◌≢◌, ℕ, ◌==◌, ◌&&◌, true, false, Option, Some, None, List, [], ◌∷◌, ◌++◌, length, take, inl, inr, ◌⊎◌, refl, sym, ap, subst}
use Rattle.std.proofs.Common.{◌∙◌, arith}
use Rattle.std.proofs.lemmas.Bool.{cases_Bool, cases_eq, cases_lt, and_parts, both_ways, false_from_ne_true, eqb-true}
use Rattle.std.proofs.lemmas.List.{map-append, take-append-le, take_all, length-append}
use Rattle.std.proofs.lemmas.List.Elements.{All-push, All-weaker, All-contains, Contains-push}
use Rattle.std.proofs.lemmas.Option.{none-some}
use Rattle.ale_base.specs.Tid.{TidOf, is_tid}
use Rattle.unit_core.specs.declared.ale_unit.AleUnit.{AleUnit}
use Rattle.unit_core.specs.declared.records.Record.{Record}
use Rattle.unit_core.specs.declared.queue.Queue.{Queue}
use Rattle.unit_core.specs.declared.queue.Queue.TheVariants.{Outbound, Inbound}
use Rattle.unit_core.specs.Filters.{taken_by, executed_by, done_by, ended_by, forgotten_by, received, executed, done_in, ended_in, forgotten_in}
use Rattle.unit_core.specs.Queues.{is_listed, is_among, unit_named, tids_of, has_name, stands_in, in_queue, heads_outbound, heads_inbound}
use Rattle.ale_base.specs.Prefix.{IsPrefix}
use Rattle.unit_core.specs.Once.{NoneTwice, TakenOnce, TakenWasCommitted, TakenInOrder, executed_units, ExecutedInOrder, Once}
use Rattle.ale_base.proofs.OptionLemmas.{none_or_some}
use Rattle.ale_base.proofs.MemberLemmas.{Contains-map, Contains-map_back, Contains-filter, Contains-filter_back, filter_map-None, filter_map-Some, filter-kept}
use Rattle.ale_base.proofs.MemberLemmas.{filter-left_out, filter_map-agree, filter_map-Contains, filter_map-Contains_back, find-longer}
use Rattle.ale_base.proofs.PrefixLemmas.{IsPrefix-same, IsPrefix-trans, IsPrefix-filter, IsPrefix-Contains, IsPrefix-filter_map}
use Rattle.unit_core.proofs.TidLemmas.{is_listed-Contains, Contains-is_listed, is_among-listed, is_among-Contains, Contains-is_among, unit_named-Some}
use Rattle.unit_core.proofs.TidLemmas.{unit_named-Contains, NoneTwice-push, same_unit}
use Rattle.unit_core.proofs.QueueLemmas.{is_head-outbound, next_of_queue}
use Rattle.unit_core.specs.Inside.{JoinsInside}
use Rattle.unit_core.proofs.InsideLemmas.{MayExecute, MayRun, taken_once, executed_in_order}

-- one record joined the log of one system
pub record Joins (logs after : ℕ → List Record) (system : ℕ) (next : Record) : Type 0 where
  pub here : after system ≡ logs system ++ next ∷ []
  pub elsewhere : (other : ℕ) → other ≢ system → after other ≡ logs other

-- a unit may be taken in: it was committed for this system and not received, and it heads its outbound queues
pub record MayTake (committed : ℕ → List AleUnit) (logs : ℕ → List Record) (system : ℕ) (unit : AleUnit) : Type 0 where
  pub receiver : unit.receiver ≡ system
  pub was_committed : Contains (committed unit.sender) unit
  pub new : is_among unit.tid (received (logs system)) ≡ false
  pub heads : heads_outbound (done_in (logs unit.sender)) (committed unit.sender) unit ≡ true

-- the unit of an id was received by its receiver
abbrev pub WasTaken : (ℕ → List AleUnit) → (ℕ → List Record) → ℕ → TidOf → Type 0
WasTaken committed logs system tid = (unit : AleUnit) × (unit.tid ≡ tid) × Contains (committed system) unit × Contains (received (logs unit.receiver)) unit

-- the id of a unit was forgotten by its receiver
abbrev pub WasForgotten : (ℕ → List AleUnit) → (ℕ → List Record) → ℕ → TidOf → Type 0
WasForgotten committed logs system tid = (unit : AleUnit) × (unit.tid ≡ tid) × Contains (committed system) unit
    × Contains (forgotten_in (logs unit.receiver)) tid

-- the record may join: what it takes in, executes, finishes, forgets and ends is in order
pub record MayJoin (committed : ℕ → List AleUnit) (logs : ℕ → List Record) (system : ℕ) (next : Record) : Type 0 where
  pub takes : (unit : AleUnit) → taken_by next ≡ Some unit → MayTake committed logs system unit
  pub executes : (tid : TidOf) → executed_by next ≡ Some tid → ((taken_by next ≡ None) × MayExecute (logs system) tid) ⊎ MayRun next tid
  pub runs : (unit : AleUnit) → taken_by next ≡ Some unit → executed_by next ≡ None ⊎ ((executed_by next ≡ Some unit.tid) × (unit.inq ≡ []))
  pub finishes : (tid : TidOf) → done_by next ≡ Some tid → WasTaken committed logs system tid
  pub forgets : (tid : TidOf) → forgotten_by next ≡ Some tid → Contains (done_in (logs tid.system)) tid
  pub ends : (tid : TidOf) → ended_by next ≡ Some tid → WasForgotten committed logs system tid

-- logs grow
pub Joins-grows : (logs after : ℕ → List Record) (system : ℕ) (next : Record) → Joins logs after system next → (other : ℕ) → IsPrefix (logs other) (after other)
Joins-grows logs after system next joins other =
    elim (cases_eq other system) [
      | inl same ↦ subst (λ s. IsPrefix (logs s) (after s)) (sym same) (next ∷ [], sym joins.here)
      | inr differs ↦ subst (λ log. IsPrefix (logs other) log) (sym (joins.elsewhere other differs)) (IsPrefix-same (logs other))
    ]

-- what holds of each system's log before, and of the one log that a record joined, holds of each after
pub at_each : (logs after : ℕ → List Record) (system : ℕ) (next : Record) → Joins logs after system next → (P : ℕ → List Record → Type 0)
    → ((other : ℕ) → P other (logs other)) → P system (logs system ++ next ∷ []) → (other : ℕ) → P other (after other)
at_each logs after system next joins P before here other =
    elim (cases_eq other system) [
      | inl same ↦ subst (λ s. P s (after s)) (sym same) (subst (P system) (sym joins.here) here)
      | inr differs ↦ subst (P other) (sym (joins.elsewhere other differs)) (before other)
    ]

module _ (committed : ℕ → List AleUnit) (logs : ℕ → List Record) (system : ℕ) (next : Record)
    (numbered : (s : ℕ) → NoneTwice (tids_of (committed s))) (once : Once committed logs) (may : MayJoin committed logs system next) where
  -- ---- what is of this log alone

  inside : JoinsInside (logs system) next
  inside = record {
    new = λ unit takes. (may.takes unit takes).new;
    direct = λ unit is. elim (may.runs unit (ap taken_by is)) [
      | inl none ↦ absurd (none-some unit.tid (sym none ∙ ap executed_by is))
      | inr run ↦ run.1
    ];
    free = λ tid is. elim (may.executes tid (ap executed_by is)) [
      | inl before ↦ (before.1.unit, before.1.named, before.1.open_, before.1.heads)
      | inr run ↦ absurd (none-some run.unit (sym (ap taken_by is) ∙ run.taken))
    ];
  }

  -- ---- taken was committed

  taken_was_committed : TakenWasCommitted committed system (logs system ++ next ∷ [])
  taken_was_committed =
      let P : AleUnit → Type 0 = λ unit. (unit.receiver ≡ system) × Contains (committed unit.sender) unit in
      elim (none_or_some (taken_by next)) [
        | inl none ↦ subst (All P) (sym (filter_map-None taken_by (logs system) next none)) (once.taken_was_committed system)
        | inr some ↦ let take = may.takes some.0 some.1 in
            subst (All P) (sym (filter_map-Some taken_by (logs system) next some.0 some.1))
            (All-push P (received (logs system)) some.0 (once.taken_was_committed system) (take.receiver, take.was_committed))
      ]

  -- ---- taken in outbound order

  -- a unit of a queue that is done stands among those of the queue that were received
  done_of_queue : (sender : ℕ) (name : List ℕ) (v : AleUnit) → Contains (committed sender) v → stands_in (Outbound sender system name) v ≡ true
      → is_listed v.tid (done_in (logs sender)) ≡ true → is_among v.tid (in_queue (Outbound sender system name) (received (logs system))) ≡ true
  done_of_queue sender name v has stands listed =
      let was : WasTaken committed logs sender v.tid =
      All-contains (WasTaken committed logs sender) (done_in (logs sender)) v.tid (once.done_was_taken sender)
      (Contains-is_listed v.tid (done_in (logs sender)) listed) in
      let same : was.0 ≡ v = same_unit (committed sender) was.0 v (numbered sender) was.2 has was.1 in
      let to : v.receiver ≡ system = eqb-true v.receiver system (and_parts (v.sender == sender) (v.receiver == system)
      (and_parts ((v.sender == sender) && (v.receiver == system)) (has_name name v.outq) stands).0).1 in
      let here : Contains (received (logs system)) v =
      subst (λ s. Contains (received (logs s)) v) to (subst (λ u. Contains (received (logs u.receiver)) u) same was.3) in
      is_among-Contains v (in_queue (Outbound sender system name) (received (logs system)))
      (Contains-filter (stands_in (Outbound sender system name)) (received (logs system)) v here stands)

  taken_next : (sender : ℕ) (name : List ℕ) (unit : AleUnit) → MayTake committed logs system unit → stands_in (Outbound sender system name) unit ≡ true
      → IsPrefix (in_queue (Outbound sender system name) (received (logs system)) ++ unit ∷ []) (in_queue (Outbound sender system name) (committed sender))
  taken_next sender name unit take stands =
      let from : unit.sender ≡ sender = eqb-true unit.sender sender (and_parts (unit.sender == sender) (unit.receiver == system)
      (and_parts ((unit.sender == sender) && (unit.receiver == system)) (has_name name unit.outq) stands).0).0 in
      next_of_queue (done_in (logs sender)) (committed sender) (in_queue (Outbound sender system name) (received (logs system)))
      (Outbound sender system name) unit
      (numbered sender) (once.taken_in_order system sender name)
      (subst (λ s. Contains (committed s) unit) from take.was_committed)
      (is_head-outbound (done_in (logs sender)) (committed sender) unit sender system name
      (subst (λ s. heads_outbound (done_in (logs s)) (committed s) unit ≡ true) from take.heads) stands)
      (done_of_queue sender name)
      (false_from_ne_true (is_among unit.tid (in_queue (Outbound sender system name) (received (logs system)))) (λ among.
      let found = Contains-is_among unit.tid (in_queue (Outbound sender system name) (received (logs system))) among in
      let back = Contains-filter_back (stands_in (Outbound sender system name)) (received (logs system)) found.0 found.1 in
      both_ways (is_among unit.tid (received (logs system))) take.new
      (subst (λ t. is_among t (received (logs system)) ≡ true) found.2 (is_among-Contains found.0 (received (logs system)) back.0))))

  taken_in_order : TakenInOrder committed system (logs system ++ next ∷ [])
  taken_in_order sender name =
      let queue : Queue = Outbound sender system name in
      let P : List AleUnit → Type 0 = λ units. IsPrefix (in_queue queue units) (in_queue queue (committed sender)) in
      elim (none_or_some (taken_by next)) [
        | inl none ↦ subst P (sym (filter_map-None taken_by (logs system) next none)) (once.taken_in_order system sender name)
        | inr some ↦ subst P (sym (filter_map-Some taken_by (logs system) next some.0 some.1))
            (elim (cases_Bool (stands_in queue some.0)) [
              | inl stands ↦ subst (λ units. IsPrefix units (in_queue queue (committed sender)))
                  (sym (filter-kept (stands_in queue) (received (logs system)) some.0 stands))
                  (taken_next sender name some.0 (may.takes some.0 some.1) stands)
              | inr out ↦ subst (λ units. IsPrefix units (in_queue queue (committed sender)))
                  (sym (filter-left_out (stands_in queue) (received (logs system)) some.0 out))
                  (once.taken_in_order system sender name)
            ])
      ]

-- what holds of each element that a record may add holds of all, where it holds of those before
pub All-filter_map : {B : Type 0} (P : B → Type 0) (h : Record → Option B) (log : List Record) (next : Record) → All P (filter_map h log)
    → ((x : B) → h next ≡ Some x → P x) → All P (filter_map h (log ++ next ∷ []))
All-filter_map P h log next before here =
    elim (none_or_some (h next)) [
      | inl none ↦ subst (All P) (sym (filter_map-None h log next none)) before
      | inr some ↦ subst (All P) (sym (filter_map-Some h log next some.0 some.1)) (All-push P (filter_map h log) some.0 before (here some.0 some.1))
    ]

-- The law stays where a record that may join joins one log, and the lists of committed units go on.
pub Once-joins : (committed more : ℕ → List AleUnit) (logs after : ℕ → List Record) (system : ℕ) (next : Record)
    → ((s : ℕ) → NoneTwice (tids_of (committed s))) → Once committed logs → MayJoin committed logs system next
    → Joins logs after system next → ((s : ℕ) → IsPrefix (committed s) (more s)) → Once more after
Once-joins committed more logs after system next numbered once may joins grows =
    let still_taken : (s : ℕ) (tid : TidOf) → WasTaken committed logs s tid → WasTaken more after s tid =
    λ s tid was. (
      was.0,
      was.1,
      IsPrefix-Contains (committed s) (more s) was.0 (grows s) was.2,
      IsPrefix-Contains (received (logs was.0.receiver)) (received (after was.0.receiver)) was.0
          (IsPrefix-filter_map taken_by (logs was.0.receiver) (after was.0.receiver) (Joins-grows logs after system next joins was.0.receiver)) was.3,
    ) in
    let still_forgotten : (s : ℕ) (tid : TidOf) → WasForgotten committed logs s tid → WasForgotten more after s tid =
    λ s tid was. (
      was.0,
      was.1,
      IsPrefix-Contains (committed s) (more s) was.0 (grows s) was.2,
      IsPrefix-Contains (forgotten_in (logs was.0.receiver)) (forgotten_in (after was.0.receiver)) tid
          (IsPrefix-filter_map forgotten_by (logs was.0.receiver) (after was.0.receiver) (Joins-grows logs after system next joins was.0.receiver)) was.3,
    ) in
    let still_done : (tid : TidOf) → Contains (done_in (logs tid.system)) tid → Contains (done_in (after tid.system)) tid =
    λ tid. IsPrefix-Contains (done_in (logs tid.system)) (done_in (after tid.system)) tid
    (IsPrefix-filter_map done_by (logs tid.system) (after tid.system) (Joins-grows logs after system next joins tid.system)) in
    let still_committed : (s : ℕ) (unit : AleUnit) → (unit.receiver ≡ s) × Contains (committed unit.sender) unit
    → (unit.receiver ≡ s) × Contains (more unit.sender) unit =
    λ s unit is. (is.0, IsPrefix-Contains (committed unit.sender) (more unit.sender) unit (grows unit.sender) is.1) in
    let in_order : (s : ℕ) (log : List Record) → TakenInOrder committed s log → TakenInOrder more s log =
    λ s log is sender name. IsPrefix-trans (in_queue (Outbound sender s name) (received log)) (in_queue (Outbound sender s name) (committed sender))
    (in_queue (Outbound sender s name) (more sender))
    (is sender name) (IsPrefix-filter (stands_in (Outbound sender s name)) (committed sender) (more sender) (grows sender)) in
    record {
      taken_once = at_each logs after system next joins (λ _ log. TakenOnce log) once.taken_once
          (taken_once (logs system) next (once.taken_once system) (once.executed_in_order system) (inside committed logs system next numbered once may));
      taken_was_committed = at_each logs after system next joins (TakenWasCommitted more)
          (λ s. All-weaker _ _ (still_committed s) (received (logs s)) (once.taken_was_committed s))
          (All-weaker _ _ (still_committed system) (received (logs system ++ next ∷ [])) (taken_was_committed committed logs system next numbered once may));
      taken_in_order = at_each logs after system next joins (TakenInOrder more)
          (λ s. in_order s (logs s) (once.taken_in_order s))
          (in_order system (logs system ++ next ∷ []) (taken_in_order committed logs system next numbered once may));
      executed_in_order = at_each logs after system next joins (λ _ log. ExecutedInOrder log) once.executed_in_order
          (executed_in_order (logs system) next (once.taken_once system) (once.executed_in_order system)
          (inside committed logs system next numbered once may));
      done_was_taken = at_each logs after system next joins (λ s log. All (WasTaken more after s) (done_in log))
          (λ s. All-weaker (WasTaken committed logs s) (WasTaken more after s) (still_taken s) (done_in (logs s)) (once.done_was_taken s))
          (All-filter_map (WasTaken more after system) done_by (logs system) next
          (All-weaker (WasTaken committed logs system) (WasTaken more after system) (still_taken system) (done_in (logs system)) (once.done_was_taken system))
          (λ tid finishes. still_taken system tid (may.finishes tid finishes)));
      forgotten_was_done = at_each logs after system next joins (λ _ log. All (λ tid. Contains (done_in (after tid.system)) tid) (forgotten_in log))
          (λ s. All-weaker _ _ still_done (forgotten_in (logs s)) (once.forgotten_was_done s))
          (All-filter_map (λ tid. Contains (done_in (after tid.system)) tid) forgotten_by (logs system) next
          (All-weaker _ _ still_done (forgotten_in (logs system)) (once.forgotten_was_done system))
          (λ tid forgets. still_done tid (may.forgets tid forgets)));
      ended_was_forgotten = at_each logs after system next joins (λ s log. All (WasForgotten more after s) (ended_in log))
          (λ s. All-weaker (WasForgotten committed logs s) (WasForgotten more after s) (still_forgotten s) (ended_in (logs s)) (once.ended_was_forgotten s))
          (All-filter_map (WasForgotten more after system) ended_by (logs system) next
          (All-weaker (WasForgotten committed logs system) (WasForgotten more after system) (still_forgotten system) (ended_in (logs system))
          (once.ended_was_forgotten system))
          (λ tid ends. still_forgotten system tid (may.ends tid ends)));
    }
