-- Whether a record keeps the clauses of the law, by what becomes of it.
use Rattle.std.specs.Prelude.{slice_get, Contains, All}
use Rattle.std.specs.Cmp.Lexicographic.{pointwise, bytes_decides}
use Rattle.std.proofs.Common.{◌≡◌, ℕ, ◌-◌, ◌<◌, ◌==◌, ◌&&◌, nat_eq, Bool, true, false, cond, Option, Some, None, List, [], ◌∷◌, ◌++◌}
use Rattle.std.proofs.Common.{length, take, inl, inr, refl, sym, ap, subst, ◌∙◌, arith}
use Rattle.std.proofs.lemmas.Bool.{cases_Bool, both_ways, and_parts, and_from, eqb-true, eq-eqb}
use Rattle.std.proofs.lemmas.Option.{none-some, same_Some}
use Rattle.ale_base.specs.Prefix.{IsPrefix}
use Rattle.ale_base.specs.QueueName.{IsQueueName}
use Rattle.ale_base.specs.Tid.{TidOf, is_tid}
use Rattle.ale_base.proofs.MemberLemmas.{filter_map-None, filter_map-Some, filter-kept, filter-left_out, list_any-Contains, list_any-found}
use Rattle.unit_core.specs.declared.ale_unit.AleUnit.{AleUnit}
use Rattle.unit_core.specs.declared.records.Record.{Record}
use Rattle.unit_core.specs.declared.records.Record.TheVariants.{Done, Ended, Accept, Direct, Forget}
use Rattle.unit_core.specs.declared.queue.Queue.{Queue}
use Rattle.unit_core.specs.declared.queue.Queue.TheVariants.{Outbound}
use Rattle.unit_core.specs.Filters.{taken_by, done_by, ended_by, forgotten_by, received, done_in, forgotten_in}
use Rattle.unit_core.specs.Queues.{in_queue, stands_in, tids_of, has_name, is_listed}
use Rattle.unit_core.specs.Once.{TakenInOrder}
use Rattle.unit_core.proofs.TidLemmas.{is_listed-Contains, Contains-is_listed, is_among-listed, is_tid-true, is_tid-from}
use Rattle.once_check.specs.declared.breach.Clause.{Clause}
use Rattle.once_check.specs.declared.breach.Clause.TheVariants.{WasCommitted, InOrder, WasTaken, WasDone, WasForgotten}
use Rattle.once_check.specs.declared.told.Told.{Told}
use Rattle.unit_core.specs.Systems.{AreNumbered}
use Rattle.once_check.specs.Breaches.{IsCommittedFor, IsAtReceiver, Keeps, order_of}
use Rattle.once_check.specs.steps.Places.{KeyOf, places_by, places_behind, places_of, AreCountsOf, AreAllPlacesOf, is_it, is_committed_for, IsTakenSo}
use Rattle.once_check.specs.steps.ToldIds.{AreToldBy, told_at, receiver_with, receiver_of, is_at, unless_so, told_breach}
use Rattle.unit_core.proofs.SameUnitLemmas.{is_same_unit-self, is_same_unit-true}
use Rattle.ale_base.proofs.ListLemmas.{Contains-at}
use Rattle.once_check.proofs.SystemsLemmas.{numbered-place, numbered-NoneTwice}
use Rattle.once_check.proofs.PlacesLemmas.{places_by-counts, places_of-committed, prefix-by_place, place-by_prefix, map-same, map-agree}

-- ---- a unit that was committed

is_it-true : (unit : AleUnit) (found : Option AleUnit) → is_it unit found ≡ true → found ≡ Some unit
is_it-true unit None is = cc
is_it-true unit (Some own) is = ap Some (sym (is_same_unit-true unit own is))

is_it-from : (unit : AleUnit) (found : Option AleUnit) → found ≡ Some unit → is_it unit found ≡ true
is_it-from unit found same = ap (is_it unit) same ∙ is_same_unit-self unit

-- the test finds units that were committed
committed-true : (committed : ℕ → List AleUnit) (system : ℕ) (unit : AleUnit) → is_committed_for committed system unit ≡ true
    → IsCommittedFor committed system unit × (slice_get (committed unit.sender) (unit.tid.unit - 1) ≡ Some unit)
committed-true committed system unit is =
    let parts = and_parts (unit.receiver == system) (is_it unit (slice_get (committed unit.sender) (unit.tid.unit - 1))) is in
    let at = is_it-true unit (slice_get (committed unit.sender) (unit.tid.unit - 1)) parts.1 in
    ((eqb-true unit.receiver system parts.0, Contains-at (committed unit.sender) (unit.tid.unit - 1) unit at), at)

-- and each of them
committed-false : (committed : ℕ → List AleUnit) (system : ℕ) (unit : AleUnit) → AreNumbered committed → is_committed_for committed system unit ≡ false
    → IsCommittedFor committed system unit → ⊥
committed-false committed system unit numbered not_it (to, has) =
    both_ways (is_committed_for committed system unit) not_it
    (and_from (unit.receiver == system) (is_it unit (slice_get (committed unit.sender) (unit.tid.unit - 1))) (eq-eqb unit.receiver system to)
    (is_it-from unit (slice_get (committed unit.sender) (unit.tid.unit - 1)) (numbered-place committed unit.sender unit numbered has).0))

-- ---- a unit in the order of its queues

has_name-Contains : (name : List ℕ) (names : List (List ℕ)) → has_name name names ≡ true → Contains names name
has_name-Contains name names has =
    let found = list_any-found (λ (other : List ℕ). pointwise nat_eq other name) names has in
    subst (Contains names) ((bytes_decides found.0 name).0 found.2) found.1

Contains-has_name : (name : List ℕ) (names : List (List ℕ)) → Contains names name → has_name name names ≡ true
Contains-has_name name names has = list_any-Contains (λ (other : List ℕ). pointwise nat_eq other name) names name has ((bytes_decides name name).1 refl)

-- the place in a queue, of a unit behind others
abbrev place_in : ℕ → ℕ → List ℕ → List AleUnit → ℕ
place_in sender receiver name units = length (in_queue (Outbound sender receiver name) units)

-- a unit that takes the places at which it was committed keeps the order
pub in_order-by_places : (committed : ℕ → List AleUnit) (system : ℕ) (before : List Record) (next : Record) (unit : AleUnit) → taken_by next ≡ Some unit
    → IsCommittedFor committed system unit → slice_get (committed unit.sender) (unit.tid.unit - 1) ≡ Some unit
    → places_behind (received before) unit ≡ places_behind (take (unit.tid.unit - 1) (committed unit.sender)) unit
    → TakenInOrder committed system before → TakenInOrder committed system (before ++ next ∷ [])
in_order-by_places committed system before next unit takes is at same in_order sender name =
    let queue : Queue = Outbound sender system name in
    subst (λ units. IsPrefix (in_queue queue units) (in_queue queue (committed sender))) (sym (filter_map-Some taken_by before next unit takes))
    (elim (cases_Bool (stands_in queue unit)) [
      | inl stands ↦
          let parts = and_parts ((unit.sender == sender) && (unit.receiver == system)) (has_name name unit.outq) stands in
          let from : unit.sender ≡ sender = eqb-true unit.sender sender (and_parts (unit.sender == sender) (unit.receiver == system) parts.0).0 in
          let k = unit.tid.unit - 1 in
          let long : place_in unit.sender unit.receiver name (received before) ≡ place_in unit.sender unit.receiver name (take k (committed unit.sender)) =
          map-same (λ n. place_in unit.sender unit.receiver n (received before)) (λ n. place_in unit.sender unit.receiver n (take k (committed unit.sender)))
          unit.outq name same (has_name-Contains name unit.outq parts.1) in
          let long_here : place_in unit.sender system name (received before) ≡ place_in unit.sender system name (take k (committed unit.sender)) =
          subst (λ r. place_in unit.sender r name (received before) ≡ place_in unit.sender r name (take k (committed unit.sender))) is.0 long in
          let its : place_in sender system name (received before) ≡ place_in sender system name (take k (committed sender)) =
          subst (λ s. place_in s system name (received before) ≡ place_in s system name (take k (committed s))) from long_here in
          subst (λ units. IsPrefix units (in_queue queue (committed sender))) (sym (filter-kept (stands_in queue) (received before) unit stands))
          (prefix-by_place queue (committed sender) (in_queue queue (received before)) k unit
          (subst (λ s. slice_get (committed s) k ≡ Some unit) from at) stands (in_order sender name) its)
      | inr out ↦ subst (λ units. IsPrefix units (in_queue queue (committed sender))) (sym (filter-left_out (stands_in queue) (received before) unit out))
          (in_order sender name)
    ])

-- and only such a unit does
pub places-by_order : (committed : ℕ → List AleUnit) (system : ℕ) (before : List Record) (next : Record) (unit : AleUnit) → AreNumbered committed
    → taken_by next ≡ Some unit → IsCommittedFor committed system unit → slice_get (committed unit.sender) (unit.tid.unit - 1) ≡ Some unit
    → TakenInOrder committed system (before ++ next ∷ [])
    → places_behind (received before) unit ≡ places_behind (take (unit.tid.unit - 1) (committed unit.sender)) unit
places-by_order committed system before next unit numbered takes is at in_order =
    let k = unit.tid.unit - 1 in
    map-agree (λ n. place_in unit.sender unit.receiver n (received before)) (λ n. place_in unit.sender unit.receiver n (take k (committed unit.sender))) unit.outq
    (λ name has.
    let queue : Queue = Outbound unit.sender unit.receiver name in
    let stands : stands_in queue unit ≡ true =
    and_from ((unit.sender == unit.sender) && (unit.receiver == unit.receiver)) (has_name name unit.outq)
    (and_from (unit.sender == unit.sender) (unit.receiver == unit.receiver) (eq-eqb unit.sender unit.sender refl) (eq-eqb unit.receiver unit.receiver refl))
    (Contains-has_name name unit.outq has) in
    let prefix : IsPrefix (in_queue queue (received (before ++ next ∷ []))) (in_queue queue (committed unit.sender)) =
    subst (λ r. IsPrefix (in_queue (Outbound unit.sender r name) (received (before ++ next ∷ []))) (in_queue (Outbound unit.sender r name) (committed unit.sender)))
    (sym is.0) (in_order unit.sender name) in
    let whole : in_queue queue (received (before ++ next ∷ [])) ≡ in_queue queue (received before) ++ unit ∷ [] =
    ap (in_queue queue) (filter_map-Some taken_by before next unit takes) ∙ filter-kept (stands_in queue) (received before) unit stands in
    place-by_prefix queue (committed unit.sender) (in_queue queue (received before)) k unit (numbered-NoneTwice committed unit.sender numbered) at stands
    (subst (λ units. IsPrefix units (in_queue queue (committed unit.sender))) whole prefix))

-- a record that takes in no unit leaves the order
pub in_order-other : (committed : ℕ → List AleUnit) (system : ℕ) (before : List Record) (next : Record) → taken_by next ≡ None
    → TakenInOrder committed system before → TakenInOrder committed system (before ++ next ∷ [])
in_order-other committed system before next none in_order sender name =
    subst (λ units. IsPrefix (in_queue (Outbound sender system name) units) (in_queue (Outbound sender system name) (committed sender)))
    (sym (filter_map-None taken_by before next none)) (in_order sender name)

-- ---- an id at the receiver of its unit

receiver-found : (tid : TidOf) (found : Option AleUnit) (tids : ℕ → List TidOf) → is_at tids tid (receiver_with tid found) ≡ true
    → (unit : AleUnit) × (found ≡ Some unit) × (unit.tid ≡ tid) × (is_listed tid (tids unit.receiver) ≡ true)
receiver-found tid None tids is = cc
receiver-found tid (Some unit) tids is =
    elim (cases_Bool (is_tid unit.tid tid)) [
      | inl same ↦ (unit, refl, is_tid-true unit.tid tid same, sym (ap (λ b. is_at tids tid (cond b (Some unit.receiver) None)) same) ∙ is)
      | inr other ↦ absurd (let e : is_at tids tid (cond false (Some unit.receiver) None) ≡ true = sym (ap (λ b. is_at tids tid (cond b (Some unit.receiver) None)) other) ∙ is in cc)
    ]

-- the test finds ids that are at the receiver
at-true : (committed : ℕ → List AleUnit) (tables tids : ℕ → List TidOf) (system : ℕ) (tid : TidOf)
    → ((receiver : ℕ) → is_listed tid (tables receiver) ≡ is_listed tid (tids receiver))
    → is_at tables tid (receiver_of committed system tid) ≡ true → IsAtReceiver committed tids system tid
at-true committed tables tids system tid same is =
    let found = receiver-found tid (slice_get (committed system) (tid.unit - 1)) tables is in (
      found.0,
      found.2,
      Contains-at (committed system) (tid.unit - 1) found.0 found.1,
      Contains-is_listed tid (tids found.0.receiver) (sym (same found.0.receiver) ∙ found.3),
    )

-- and each of them
at-false : (committed : ℕ → List AleUnit) (tables tids : ℕ → List TidOf) (system : ℕ) (tid : TidOf) → AreNumbered committed
    → ((receiver : ℕ) → is_listed tid (tables receiver) ≡ is_listed tid (tids receiver))
    → is_at tables tid (receiver_of committed system tid) ≡ false → IsAtReceiver committed tids system tid → ⊥
at-false committed tables tids system tid numbered same not_it (unit, its, has, listed) =
    let place = (numbered-place committed system unit numbered has).0 in
    let at : slice_get (committed system) (tid.unit - 1) ≡ Some unit = subst (λ (t : TidOf). slice_get (committed system) (t.unit - 1) ≡ Some unit) its place in
    both_ways (is_at tables tid (receiver_of committed system tid)) not_it
    (ap (λ o. is_at tables tid (receiver_with tid o)) at
    ∙ ap (λ b. is_at tables tid (cond b (Some unit.receiver) None)) (is_tid-from unit.tid tid its)
    ∙ same unit.receiver ∙ is_listed-Contains tid (tids unit.receiver) listed)

-- ---- a record that tells of an id

unless-none : (holds : Bool) (clause : Clause) → unless_so holds clause ≡ None → holds ≡ true
unless-none true clause none = refl
unless-none false clause none = cc

unless-some : (holds : Bool) (clause other : Clause) → unless_so holds clause ≡ Some other → (holds ≡ false) × (clause ≡ other)
unless-some true clause other some = cc
unless-some false clause other some = (refl, cc)

module _ (committed : ℕ → List AleUnit) (logs : ℕ → List Record) (all : List Told) (system : ℕ) (before : List Record)
    (numbered : AreNumbered committed) (told : AreToldBy logs all) where
  same_received : (tid : TidOf) (receiver : ℕ) → is_listed tid (told_at all receiver).received ≡ is_listed tid (tids_of (received (logs receiver)))
  same_received tid receiver = (told.told_by receiver).received tid ∙ is_among-listed tid (received (logs receiver))

  same_forgotten : (tid : TidOf) (receiver : ℕ) → is_listed tid (told_at all receiver).forgotten ≡ is_listed tid (forgotten_in (logs receiver))
  same_forgotten tid receiver = (told.told_by receiver).forgotten tid

  -- a record of which nothing is said keeps each clause but that of the order
  pub tells-none : (next : Record) → taken_by next ≡ None → told_breach committed all system next ≡ None → (clause : Clause)
      → Keeps committed logs system before next clause
  tells-none next none holds WasCommitted = λ unit takes. absurd (none-some unit (sym none ∙ takes))
  tells-none next none holds InOrder = in_order-other committed system before next none
  tells-none next none holds WasTaken = done_none next holds
    where
      done_none : (next : Record) → told_breach committed all system next ≡ None → Keeps committed logs system before next WasTaken
      done_none (Done tid) holds other is =
          let same : tid ≡ other = cc in
          subst (IsAtReceiver committed (λ receiver. tids_of (received (logs receiver))) system) same
          (at-true committed (λ receiver. (told_at all receiver).received) (λ receiver. tids_of (received (logs receiver))) system tid (same_received tid)
          (unless-none (is_at (λ receiver. (told_at all receiver).received) tid (receiver_of committed system tid)) WasTaken holds))
      done_none _ holds other is = cc
  tells-none next none holds WasDone = forget_none next holds
    where
      forget_none : (next : Record) → told_breach committed all system next ≡ None → Keeps committed logs system before next WasDone
      forget_none (Forget tid) holds other is =
          let same : tid ≡ other = cc in
          subst (λ (t : TidOf). Contains (done_in (logs t.system)) t) same
          (Contains-is_listed tid (done_in (logs tid.system)) (sym ((told.told_by tid.system).done tid)
          ∙ unless-none (is_listed tid (told_at all tid.system).done) WasDone holds))
      forget_none _ holds other is = cc
  tells-none next none holds WasForgotten = ended_none next holds
    where
      ended_none : (next : Record) → told_breach committed all system next ≡ None → Keeps committed logs system before next WasForgotten
      ended_none (Ended tid) holds other is =
          let same : tid ≡ other = cc in
          subst (IsAtReceiver committed (λ receiver. forgotten_in (logs receiver)) system) same
          (at-true committed (λ receiver. (told_at all receiver).forgotten) (λ receiver. forgotten_in (logs receiver)) system tid (same_forgotten tid)
          (unless-none (is_at (λ receiver. (told_at all receiver).forgotten) tid (receiver_of committed system tid)) WasForgotten holds))
      ended_none _ holds other is = cc

  -- a record that breaks a clause breaks it, and keeps those before it
  abbrev pub IsBroken : Record → Clause → Type 0
  IsBroken next clause = (Keeps committed logs system before next clause → ⊥)
      × ((other : Clause) → order_of other < order_of clause → Keeps committed logs system before next other)

  done_some : (tid : TidOf) → is_at (λ receiver. (told_at all receiver).received) tid (receiver_of committed system tid) ≡ false
      → (Keeps committed logs system before (Done tid) WasTaken → ⊥)
      × ((other : Clause) → order_of other < 2 → Keeps committed logs system before (Done tid) other)
  done_some tid fails = (
    λ keeps. at-false committed (λ receiver. (told_at all receiver).received) (λ receiver. tids_of (received (logs receiver))) system tid numbered (same_received tid) fails
        (keeps tid refl),
    λ other less. below other less,
  )
    where
      below : (other : Clause) → order_of other < 2 → Keeps committed logs system before (Done tid) other
      below WasCommitted less = λ unit takes. cc
      below InOrder less = in_order-other committed system before (Done tid) refl
      below WasTaken less = absurd (omega arith)
      below WasDone less = absurd (omega arith)
      below WasForgotten less = absurd (omega arith)

  forget_some : (tid : TidOf) → is_listed tid (told_at all tid.system).done ≡ false
      → (Keeps committed logs system before (Forget tid) WasDone → ⊥)
      × ((other : Clause) → order_of other < 3 → Keeps committed logs system before (Forget tid) other)
  forget_some tid fails = (
    λ keeps. both_ways (is_listed tid (told_at all tid.system).done) fails
        ((told.told_by tid.system).done tid ∙ is_listed-Contains tid (done_in (logs tid.system)) (keeps tid refl)),
    λ other less. below other less,
  )
    where
      below : (other : Clause) → order_of other < 3 → Keeps committed logs system before (Forget tid) other
      below WasCommitted less = λ unit takes. cc
      below InOrder less = in_order-other committed system before (Forget tid) refl
      below WasTaken less = λ id is. cc
      below WasDone less = absurd (omega arith)
      below WasForgotten less = absurd (omega arith)

  ended_some : (tid : TidOf) → is_at (λ receiver. (told_at all receiver).forgotten) tid (receiver_of committed system tid) ≡ false
      → (Keeps committed logs system before (Ended tid) WasForgotten → ⊥)
      × ((other : Clause) → order_of other < 4 → Keeps committed logs system before (Ended tid) other)
  ended_some tid fails = (
    λ keeps. at-false committed (λ receiver. (told_at all receiver).forgotten) (λ receiver. forgotten_in (logs receiver)) system tid numbered (same_forgotten tid) fails
        (keeps tid refl),
    λ other less. below other less,
  )
    where
      below : (other : Clause) → order_of other < 4 → Keeps committed logs system before (Ended tid) other
      below WasCommitted less = λ unit takes. cc
      below InOrder less = in_order-other committed system before (Ended tid) refl
      below WasTaken less = λ id is. cc
      below WasDone less = λ id is. cc
      below WasForgotten less = absurd (omega arith)

  -- the clause that a record breaks, by the tables
  pub tells-some : (next : Record) (clause : Clause) → told_breach committed all system next ≡ Some clause → IsBroken next clause
  tells-some (Done tid) clause some =
      let fails = unless-some (is_at (λ receiver. (told_at all receiver).received) tid (receiver_of committed system tid)) WasTaken clause some in
      subst (IsBroken (Done tid)) fails.1 (done_some tid fails.0)
  tells-some (Forget tid) clause some =
      let fails = unless-some (is_listed tid (told_at all tid.system).done) WasDone clause some in
      subst (IsBroken (Forget tid)) fails.1 (forget_some tid fails.0)
  tells-some (Ended tid) clause some =
      let fails = unless-some (is_at (λ receiver. (told_at all receiver).forgotten) tid (receiver_of committed system tid)) WasForgotten clause some in
      subst (IsBroken (Ended tid)) fails.1 (ended_some tid fails.0)
  tells-some _ clause some = cc

-- ---- a record that takes in a unit

-- such a record tells of nothing else
tells_nothing : (next : Record) (unit : AleUnit) → taken_by next ≡ Some unit → (done_by next ≡ None) × (forgotten_by next ≡ None) × (ended_by next ≡ None)
tells_nothing (Accept u) unit takes = (refl, refl, refl)
tells_nothing (Direct u) unit takes = (refl, refl, refl)
tells_nothing _ unit takes = cc

module _ (committed : ℕ → List AleUnit) (logs : ℕ → List Record) (places : List (List (List ℕ))) (system : ℕ) (before : List Record)
    (counts : KeyOf → Option ℕ) (next : Record) (unit : AleUnit) (takes : taken_by next ≡ Some unit)
    (numbered : AreNumbered committed) (placed : AreAllPlacesOf committed places) (counted : AreCountsOf (received before) counts)
    (in_order : TakenInOrder committed system before) where
  -- both kinds of places, behind the units received and behind those committed
  by_counts : All IsQueueName unit.outq → places_by counts unit ≡ places_behind (received before) unit
  by_counts proper = places_by-counts (received before) counts unit counted proper

  by_sender : slice_get (committed unit.sender) (unit.tid.unit - 1) ≡ Some unit
      → places_of places unit ≡ places_behind (take (unit.tid.unit - 1) (committed unit.sender)) unit
  by_sender at = places_of-committed committed places unit (placed unit.sender) at

  -- a unit that is taken in without a breach goes on in order
  pub taken-in_order : (after : KeyOf → Option ℕ) → IsTakenSo committed places system unit counts after None → TakenInOrder committed system (before ++ next ∷ [])
  taken-in_order after (is, same, proper, more) =
      let its = committed-true committed system unit is in
      in_order-by_places committed system before next unit takes its.0 its.1
      (sym (by_counts proper) ∙ (bytes_decides (places_by counts unit) (places_of places unit)).0 same ∙ by_sender its.1) in_order

  -- and keeps each clause
  pub taken-none : (after : KeyOf → Option ℕ) → IsTakenSo committed places system unit counts after None → (clause : Clause) → Keeps committed logs system before next clause
  taken-none after so WasCommitted =
      λ u its. subst (IsCommittedFor committed system) (same_Some unit u (sym takes ∙ its)) (committed-true committed system unit so.0).0
  taken-none after so InOrder = λ _. taken-in_order after so
  taken-none after so WasTaken = λ tid is. absurd (none-some tid (sym (tells_nothing next unit takes).0 ∙ is))
  taken-none after so WasDone = λ tid is. absurd (none-some tid (sym (tells_nothing next unit takes).1 ∙ is))
  taken-none after so WasForgotten = λ tid is. absurd (none-some tid (sym (tells_nothing next unit takes).2 ∙ is))

  -- a unit that was not committed, or that is not the next of each queue
  pub taken-some : (after : KeyOf → Option ℕ) (clause : Clause) → IsTakenSo committed places system unit counts after (Some clause)
      → (Keeps committed logs system before next clause → ⊥)
      × ((other : Clause) → order_of other < order_of clause → Keeps committed logs system before next other)
  taken-some after WasCommitted not_it = (
    λ keeps. committed-false committed system unit numbered not_it (keeps unit takes),
    λ other less. absurd (omega (arith, less)),
  )
  taken-some after InOrder (is, differs, proper) =
      let its = committed-true committed system unit is in (
        λ keeps. both_ways (pointwise nat_eq (places_by counts unit) (places_of places unit)) differs
            ((bytes_decides (places_by counts unit) (places_of places unit)).1
            (by_counts proper ∙ places-by_order committed system before next unit numbered takes its.0 its.1 (keeps in_order) ∙ sym (by_sender its.1))),
        below its.0,
      )
    where
      below : IsCommittedFor committed system unit → (other : Clause) → order_of other < 1 → Keeps committed logs system before next other
      below its WasCommitted less = λ u also. subst (IsCommittedFor committed system) (same_Some unit u (sym takes ∙ also)) its
      below its InOrder less = absurd (omega arith)
      below its WasTaken less = absurd (omega arith)
      below its WasDone less = absurd (omega arith)
      below its WasForgotten less = absurd (omega arith)
  taken-some after WasTaken so = absurd so
  taken-some after WasDone so = absurd so
  taken-some after WasForgotten so = absurd so
