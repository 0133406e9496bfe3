-- Heads, stops and offers, as the plain definitions see them and as the lists have them.
use Rattle.std.specs.Prelude.{filter, find, slice_get, not, ◌&&◌}
use Rattle.std.specs.List.{filter_map, list_all, cons_option}
use Rattle.std.specs.Option.{option_map, option_map_or, option_and_then, is_none}
use Rattle.std.proofs.Common.{◌≡◌, ◌<◌, ◌≤◌, ◌+◌, ◌-◌, ℕ, zero, suc, Bool, true, false, ◌||◌, eqb, cond, Option, Some, None, List, [], ◌∷◌, length, map, inl}
use Rattle.std.proofs.Common.{inr, refl, sym, ap, subst, ◌∙◌, arith}
use Rattle.std.proofs.lemmas.Bool.{cases_Bool, both_ways, false_from_ne_true, cond-true, cond-false, eq-eqb}
use Rattle.std.proofs.lemmas.Bool.Decides.{eqb_tells, nat_tests}
use Rattle.std.proofs.lemmas.Option.{same_Some, slice_get_within}
use Rattle.ale_base.specs.Tid.{TidOf, is_tid}
use Rattle.unit_core.proofs.TidLemmas.{is_tid-true, is_tid-same}
use Rattle.plain_queues.specs.declared.queue_key.QueueKey.{QueueKey}
use Rattle.plain_queues.specs.declared.queued_unit.QueuedUnit.{QueuedUnit}
use Rattle.plain_queues.specs.Keys.{is_key, has_key}
use Rattle.plain_queues.specs.Queues.{head_of, is_stopped}
use Rattle.plain_queues.specs.Offered.{has_tid, heads, lets_go, is_offered, first_offered}
use Rattle.plain_queues.specs.Offered.{is_ready as may_go}
use Rattle.plain_queues.proofs.OfferedLemmas.{is_key-same}
use Rattle.multi_queue.specs.declared.board.Board.{Board}
use Rattle.multi_queue.specs.declared.entry.Entry.{Entry}
use Rattle.multi_queue.specs.declared.entry.Lane.{Lane}
use Rattle.multi_queue.specs.Counted.{has, is_live, is_in, is_first, tells, count_but, standing, is_ready}
use Rattle.multi_queue.specs.Seen.{key_at, seen_unit, seen, number_of, IsNamed, IsQueues, IsNowhere}
use Rattle.ale_base.proofs.ListLemmas.{slice_get-within}
use Rattle.multi_queue.proofs.CountedLemmas.{first-stands, first-seen, skip-find, first-is, count-le}
use Rattle.multi_queue.proofs.SeenLemmas.{find-map, one_number, head_of-seen, unit_of-here, unit_of-gone}

-- ---- stops

pub stops-none : (key : QueueKey) (lanes : List Lane) → ((r : ℕ) (v : Lane) → slice_get lanes r ≡ Some v → is_key v.key key ≡ true → v.stopped ≡ false)
    → has_key key (map (λ (lane : Lane). lane.key) (filter (λ (lane : Lane). lane.stopped) lanes)) ≡ false
stops-none key [] moves = refl
stops-none key (w ∷ ws) moves =
    let rest = stops-none key ws (λ r v got. moves (suc r) v got) in
    elim w.stopped as (λ b. w.stopped ≡ b → has_key key
    (map (λ (lane : Lane). lane.key) (cond b (w ∷ filter (λ (lane : Lane). lane.stopped) ws) (filter (λ (lane : Lane). lane.stopped) ws))) ≡ false) [
      | true ↦ λ e. let other = false_from_ne_true (is_key w.key key) (λ same. both_ways w.stopped (moves 0 w refl same) e) in
          ap (λ b. b || has_key key (map (λ (lane : Lane). lane.key) (filter (λ (lane : Lane). lane.stopped) ws))) other ∙ rest
      | false ↦ λ e. rest
    ] refl

pub stops-there : (key : QueueKey) (lanes : List Lane) (r : ℕ) (v : Lane) → slice_get lanes r ≡ Some v → is_key v.key key ≡ true → v.stopped ≡ true
    → has_key key (map (λ (lane : Lane). lane.key) (filter (λ (lane : Lane). lane.stopped) lanes)) ≡ true
stops-there key [] r v got same stopped = cc
stops-there key (w ∷ ws) zero v got same stopped =
    let e : w ≡ v = cc in
    let key_is : is_key w.key key ≡ true = ap (λ (l : Lane). is_key l.key key) e ∙ same in
    ap (λ b. has_key key (map (λ (lane : Lane). lane.key) (cond b (w ∷ filter (λ (lane : Lane). lane.stopped) ws) (filter (λ (lane : Lane). lane.stopped) ws))))
    (ap (λ (l : Lane). l.stopped) e ∙ stopped)
    ∙ ap (λ b. b || has_key key (map (λ (lane : Lane). lane.key) (filter (λ (lane : Lane). lane.stopped) ws))) key_is
stops-there key (w ∷ ws) (suc r) v got same stopped =
    let rest = stops-there key ws r v got same stopped in
    elim w.stopped as (λ b. has_key key (map (λ (lane : Lane). lane.key)
    (cond b (w ∷ filter (λ (lane : Lane). lane.stopped) ws) (filter (λ (lane : Lane). lane.stopped) ws))) ≡ true) [
      | true ↦ ap (λ b. is_key w.key key || b) rest ∙ either (is_key w.key key)
      | false ↦ rest
    ]
  where
    either : (b : Bool) → (b || true) ≡ true
    either true = refl
    either false = refl

-- a queue that is known is stopped exactly where its lane is
pub stopped-is : (units : List Entry) (lanes : List Lane) (names : ℕ × List ℕ → Option ℕ) (q : ℕ) (w : Lane) → IsNamed lanes names → slice_get lanes q ≡ Some w
    → is_stopped w.key (seen units lanes) ≡ w.stopped
stopped-is units lanes names q w it got =
    elim (cases_Bool w.stopped) [
      | inl its ↦ stops-there w.key lanes q w got (is_key-same w.key) its ∙ sym its
      | inr isnt ↦ stops-none w.key lanes (λ r v at_r same.
          let one = one_number lanes names r q v w it at_r got same in
          let e : v ≡ w = cc (at_r, got, one) in
          ap (λ (l : Lane). l.stopped) e ∙ isnt) ∙ sym isnt
    ]

-- ---- heads

none-seen : (q n : ℕ) (units : List Entry) → slice_get (standing q n units) 0 ≡ None → find (is_in q) (filter is_live units) ≡ None
none-seen q n [] h = refl
none-seen q n (x ∷ xs) h =
    elim (has q x.queues) as (λ b. has q x.queues ≡ b → slice_get (cond b (n ∷ standing q (n + 1) xs) (standing q (n + 1) xs)) 0 ≡ None
    → find (is_in q) (cond x.live (x ∷ filter is_live xs) (filter is_live xs)) ≡ None) [
      | true ↦ λ e k. absurd (cc)
      | false ↦ λ e k. skip-find q x (filter is_live xs) e ∙ none-seen q (n + 1) xs k
    ] refl h

-- what the lists keep, of one unit and one queue
pub queued-live : {units : List Entry} {lanes : List Lane} {board : Board} {places : ℕ × ℕ → Option ℕ}
    {names : ℕ × List ℕ → Option ℕ}
    → IsQueues units lanes board places names → (p q : ℕ) (u : Entry) → slice_get units p ≡ Some u → has q u.queues ≡ true → u.live ≡ true
queued-live it p q u got h =
    elim (cases_Bool u.live) [
      | inl its ↦ its
      | inr isnt ↦ absurd (let none = ap (λ l. has q l) (it.gone p u got isnt) in both_ways (has q u.queues) none h)
    ]

-- the unit that heads a queue is the one at the first place of its line
pub head-line : {units : List Entry} {lanes : List Lane} {board : Board} {places : ℕ × ℕ → Option ℕ}
    {names : ℕ × List ℕ → Option ℕ}
    → IsQueues units lanes board places names → (q : ℕ) (w : Lane) → slice_get lanes q ≡ Some w
    → head_of w.key (seen units lanes) ≡ option_map (seen_unit lanes) (option_and_then (λ p. slice_get units p) (slice_get w.line 0))
head-line {units} {lanes} {board} {places} {names} it q w got =
    let first : slice_get w.line 0 ≡ slice_get (standing q 0 units) 0 = ap (λ l. slice_get l 0) (it.kept.counted.lines q w got) in
    let found : (o : Option ℕ) → slice_get (standing q 0 units) 0 ≡ o → find (is_in q) (filter is_live units) ≡ option_and_then (λ p. slice_get units p) o =
    λ o. elim o as (λ o. slice_get (standing q 0 units) 0 ≡ o → find (is_in q) (filter is_live units) ≡ option_and_then (λ p. slice_get units p) o) [
      | None ↦ λ e. none-seen q 0 units e
      | Some p ↦ λ e. let z : 0 + p ≡ p = omega arith in
          first-seen q 0 units p (λ v i at_i h. queued-live it i q v at_i h) (e ∙ ap (λ i. Some i) (sym z))
    ] in
    head_of-seen units lanes names q w it.named got (λ k u r at_k h. it.kept.counted.known k u r at_k h)
    ∙ ap (option_map (seen_unit lanes)) (found (slice_get w.line 0) (sym first))

-- two units that are not finished and have one id are at one place
pub one-place : {units : List Entry} {lanes : List Lane} {board : Board} {places : ℕ × ℕ → Option ℕ}
    {names : ℕ × List ℕ → Option ℕ}
    → IsQueues units lanes board places names → (p r : ℕ) (u v : Entry) → slice_get units p ≡ Some u → slice_get units r ≡ Some v
    → u.live ≡ true → v.live ≡ true → is_tid v.tid u.tid ≡ true → p ≡ r
one-place {places = places} it p r u v at_p at_r live_u live_v same =
    same_Some p r (sym (it.placed.placed p u at_p live_u) ∙ ap (λ (t : TidOf). places (number_of t)) (sym (is_tid-true v.tid u.tid same))
    ∙ it.placed.placed r v at_r live_v)

-- of two units that are not finished, one has the id of the other exactly where it is at its place
pub tid-place : {units : List Entry} {lanes : List Lane} {board : Board} {places : ℕ × ℕ → Option ℕ}
    {names : ℕ × List ℕ → Option ℕ}
    → IsQueues units lanes board places names → (p r : ℕ) (u v : Entry) → slice_get units p ≡ Some u → slice_get units r ≡ Some v
    → u.live ≡ true → v.live ≡ true → is_tid v.tid u.tid ≡ eqb p r
tid-place it p r u v at_p at_r live_u live_v =
    elim (eqb_tells p r) [
      | inl same ↦
          let one : v ≡ u = cc (at_p, at_r, same.1) in
          ap (λ (x : Entry). is_tid x.tid u.tid) one ∙ is_tid-same u.tid ∙ sym same.0
      | inr other ↦ false_from_ne_true (is_tid v.tid u.tid) (λ same. other.1 (one-place it p r u v at_p at_r live_u live_v same)) ∙ sym other.0
    ]

first-no : (line : List ℕ) (p : ℕ) → slice_get line 0 ≡ None → is_first p line ≡ false
first-no [] p e = refl
first-no (x ∷ xs) p e = absurd (cc)

-- a unit heads a queue exactly where it is the first of its line
pub heads-is : {units : List Entry} {lanes : List Lane} {board : Board} {places : ℕ × ℕ → Option ℕ}
    {names : ℕ × List ℕ → Option ℕ}
    → IsQueues units lanes board places names → (p q : ℕ) (u : Entry) (w : Lane) → slice_get units p ≡ Some u → u.live ≡ true →
    slice_get lanes q ≡ Some w
    → heads u.tid (seen units lanes) w.key ≡ is_first p w.line
heads-is {units} {lanes} it p q u w at_p live at_q =
    let head = head-line it q w at_q in
    let line = it.kept.counted.lines q w at_q in
    let by : (o : Option ℕ) → slice_get w.line 0 ≡ o → has_tid u.tid (option_map (seen_unit lanes) (option_and_then (λ i. slice_get units i) o))
    ≡ is_first p w.line =
    λ o. elim o as (λ o. slice_get w.line 0 ≡ o → has_tid u.tid (option_map (seen_unit lanes) (option_and_then (λ i. slice_get units i) o))
    ≡ is_first p w.line) [
      | None ↦ λ e. sym (first-no w.line p e)
      | Some r ↦ λ e.
          let there = first-stands q 0 units r (ap (λ l. slice_get l 0) (sym line) ∙ e) in
          let v : Entry = there.0 in
          let z : r - 0 ≡ r = omega arith in
          let at_r : slice_get units r ≡ Some v = ap (λ i. slice_get units i) (sym z) ∙ there.1.1 in
          let live_v = queued-live it r q v at_r there.1.2 in
          ap (λ (o : Option Entry). has_tid u.tid (option_map (seen_unit lanes) o)) at_r
          ∙ tid-place it p r u v at_p at_r live live_v ∙ sym (first-is w.line r p e)
    ] in
    ap (has_tid u.tid) head ∙ by (slice_get w.line 0) refl

turned : (a b : Bool) → (a && not b) ≡ (not b && a)
turned true true = refl
turned true false = refl
turned false true = refl
turned false false = refl

-- a queue lets a unit go exactly where it counts for it
pub lets-is : {units : List Entry} {lanes : List Lane} {board : Board} {places : ℕ × ℕ → Option ℕ}
    {names : ℕ × List ℕ → Option ℕ}
    → IsQueues units lanes board places names → (p q : ℕ) (u : Entry) (w : Lane) → slice_get units p ≡ Some u → u.live ≡ true →
    slice_get lanes q ≡ Some w
    → lets_go u.tid (seen units lanes) w.key ≡ tells p (Some w)
lets-is {units} {lanes} {names = names} it p q u w at_p live at_q =
    ap (λ b. b && not (is_stopped w.key (seen units lanes))) (heads-is it p q u w at_p live at_q)
    ∙ ap (λ b. is_first p w.line && not b) (stopped-is units lanes names q w it.named at_q)
    ∙ turned (is_first p w.line) w.stopped

-- ---- offers

counts-on : (t : Bool) (n m : ℕ) → n ≤ m → (t && eqb n m) ≡ eqb (cond t 1 0 + n) (suc m)
counts-on true n m le = grind (arith, nat_tests)
counts-on false n m le = grind (arith, nat_tests)

pub known-here : (q : ℕ) (qs : List ℕ) → has q (q ∷ qs) ≡ true
known-here q qs = ap (λ b. b || has q qs) (eq-eqb q q refl)

pub known-later : (q r : ℕ) (qs : List ℕ) → has r qs ≡ true → has r (q ∷ qs) ≡ true
known-later q r qs h = ap (λ b. eqb r q || b) h ∙ either (eqb r q)
  where
    either : (b : Bool) → (b || true) ≡ true
    either true = refl
    either false = refl

-- a test of keys of all queues, as a count of those that pass
pub all-count : (test : QueueKey → Bool) (lanes : List Lane) (p : ℕ) (qs : List ℕ) → ((r : ℕ) → has r qs ≡ true → r < length lanes)
    → ((q : ℕ) (w : Lane) → slice_get lanes q ≡ Some w → test w.key ≡ tells p (Some w)) → list_all test (filter_map (key_at lanes) qs)
    ≡ eqb (count_but None lanes p qs) (length qs)
all-count test lanes p [] known is = refl
all-count test lanes p (q ∷ qs) known is =
    let at = slice_get-within lanes q (known q (known-here q qs)) in
    let w : Lane = at.0 in
    let rest = all-count test lanes p qs (λ r h. known r (known-later q r qs h)) is in
    ap (λ o. list_all test (cons_option (option_map (λ (lane : Lane). lane.key) o) (filter_map (key_at lanes) qs))) at.1
    ∙ ap (λ b. b && list_all test (filter_map (key_at lanes) qs)) (is q w at.1)
    ∙ ap (λ b. tells p (Some w) && b) rest
    ∙ counts-on (tells p (Some w)) (count_but None lanes p qs) (length qs) (count-le None lanes p qs)
    ∙ ap (λ o. eqb (cond (tells p o) 1 0 + count_but None lanes p qs) (suc (length qs))) (sym at.1)

-- a unit that is not finished may be claimed exactly where its count says so
pub ready-is : {units : List Entry} {lanes : List Lane} {board : Board} {places : ℕ × ℕ → Option ℕ}
    {names : ℕ × List ℕ → Option ℕ}
    → IsQueues units lanes board places names → (p : ℕ) (u : Entry) → slice_get units p ≡ Some u → u.live ≡ true
    → may_go (seen units lanes) (seen_unit lanes u) ≡ is_ready (slice_get units p) (slice_get board.heads p)
ready-is {units} {lanes} {board} it p u at_p live =
    let within = slice_get_within units p u at_p in
    let at = slice_get-within board.heads p (omega (arith, within, it.kept.counted.all)) in
    let h : ℕ = at.0 in
    let count = it.kept.counted.counts p u h at_p at.1 in
    let all = all-count (lets_go u.tid (seen units lanes)) lanes p u.queues (λ r k. it.kept.counted.known p u r at_p k)
    (λ q w at_q. lets-is it p q u w at_p live at_q) in
    ap (λ b. is_none u.claim && is_none u.mark && b) (all ∙ ap (λ n. eqb n (length u.queues)) (sym count))
    ∙ ap (λ b. b && is_none u.claim && is_none u.mark && eqb h (length u.queues)) (sym live)
    ∙ ap (λ o. is_ready (Some u) o) (sym at.1)
    ∙ ap (λ o. is_ready o (slice_get board.heads p)) (sym at_p)

pub offered-at : {units : List Entry} {lanes : List Lane} {board : Board} {places : ℕ × ℕ → Option ℕ}
    {names : ℕ × List ℕ → Option ℕ}
    → IsQueues units lanes board places names → (tid : TidOf) (p : ℕ) (u : Entry) → places (number_of tid) ≡ Some p → slice_get units p ≡ Some u →
    u.live ≡ true
    → is_offered tid (seen units lanes) ≡ is_ready (slice_get units p) (slice_get board.heads p)
offered-at {units} {lanes} {places = places} it tid p u names at_p live =
    ap (λ (o : Option QueuedUnit). option_map_or (may_go (seen units lanes)) o false) (unit_of-here tid units lanes places p u it.placed names at_p live)
    ∙ ready-is it p u at_p live

pub offered-nowhere : {units : List Entry} {lanes : List Lane} {board : Board} {places : ℕ × ℕ → Option ℕ}
    {names : ℕ × List ℕ → Option ℕ}
    → IsQueues units lanes board places names → (tid : TidOf) → IsNowhere tid units places → is_offered tid (seen units lanes) ≡ false
offered-nowhere {units} {lanes} {places = places} it tid none =
    ap (λ (o : Option QueuedUnit). option_map_or (may_go (seen units lanes)) o false) (unit_of-gone tid units lanes places it.placed none.nowhere)

-- ---- the first offer

ready-live : (o : Option Entry) (n : Option ℕ) → is_ready o n ≡ true → (u : Entry) × (o ≡ Some u) × (u.live ≡ true)
ready-live None n ready = absurd (cc)
ready-live (Some u) None ready = absurd (cc)
ready-live (Some u) (Some h) ready =
    elim (cases_Bool u.live) [
      | inl live ↦ (u, refl, live)
      | inr dead ↦ absurd (let no = ap (λ b. b && is_none u.claim && is_none u.mark && eqb h (length u.queues)) dead in both_ways
          (is_ready (Some u) (Some h)) no ready)
    ]

-- the unit that may go is there, and is not finished
pub ready-unit : (units : List Entry) (counts : List ℕ) (p : ℕ) → is_ready (slice_get units p) (slice_get counts p) ≡ true →
    (u : Entry) × (slice_get units p ≡ Some u) × (u.live ≡ true)
ready-unit units counts p ready = ready-live (slice_get units p) (slice_get counts p) ready

pub find-none : (test : Entry → Bool) (units : List Entry) → ((p : ℕ) (u : Entry) → slice_get units p ≡ Some u → u.live ≡ true → test u ≡ false) →
    find test (filter is_live units) ≡ None
find-none test [] none = refl
find-none test (u ∷ us) none =
    let rest = find-none test us (λ p v at_p. none (suc p) v at_p) in
    elim u.live as (λ b. u.live ≡ b → find test (cond b (u ∷ filter is_live us) (filter is_live us)) ≡ None) [
      | true ↦ λ e. cond-false (test u) (Some u) (find test (filter is_live us)) (none 0 u refl e) ∙ rest
      | false ↦ λ e. rest
    ] refl

find-first : (test : Entry → Bool) (units : List Entry) (p : ℕ) (u : Entry) → slice_get units p ≡ Some u → u.live ≡ true → test u ≡ true
    → ((r : ℕ) (v : Entry) → r < p → slice_get units r ≡ Some v → v.live ≡ true → test v ≡ false) → find test (filter is_live units) ≡ Some u
find-first test [] p u at_p live pass none = cc
find-first test (v ∷ vs) zero u at_p live pass none =
    let e : v ≡ u = cc in
    rw e (subst (λ b. find test (cond b (u ∷ filter is_live vs) (filter is_live vs)) ≡ Some u) (sym live)
    (cond-true (test u) (Some u) (find test (filter is_live vs)) pass))
find-first test (v ∷ vs) (suc p) u at_p live pass none =
    let rest = find-first test vs p u at_p live pass (λ r x less at_r. none (suc r) x (omega arith) at_r) in
    elim v.live as (λ b. v.live ≡ b → find test (cond b (v ∷ filter is_live vs) (filter is_live vs)) ≡ Some u) [
      | true ↦ λ e. cond-false (test v) (Some v) (find test (filter is_live vs)) (none 0 v (omega arith) refl e) ∙ rest
      | false ↦ λ e. rest
    ] refl

-- the first unit by place that may go is the offered unit that was added first
pub first-offer : {units : List Entry} {lanes : List Lane} {board : Board} {places : ℕ × ℕ → Option ℕ}
    {names : ℕ × List ℕ → Option ℕ}
    → IsQueues units lanes board places names → (p : ℕ) (u : Entry) → slice_get units p ≡ Some u →
    is_ready (slice_get units p) (slice_get board.heads p) ≡ true
    → ((r : ℕ) → r < p → is_ready (slice_get units r) (slice_get board.heads r) ≡ false) → first_offered (seen units lanes) ≡ Some u.tid
first-offer {units} {lanes} {board} it p u at_p ready none =
    let there = ready-unit units board.heads p ready in
    let same : there.0 ≡ u = cc (there.1, at_p) in
    let live : u.live ≡ true = ap (λ (v : Entry). v.live) (sym same) ∙ there.2 in
    ap (option_map (λ (unit : QueuedUnit). unit.tid)) (find-map (may_go (seen units lanes)) (seen_unit lanes) (filter is_live units)
    ∙ ap (option_map (seen_unit lanes)) (find-first (λ (v : Entry). may_go (seen units lanes) (seen_unit lanes v)) units p u at_p live
    (ready-is it p u at_p live ∙ ready)
    (λ r v less at_r live_v. ready-is it r v at_r live_v ∙ none r less)))

-- where no place may go, no unit is found that may
pub no-offer : {units : List Entry} {lanes : List Lane} {board : Board} {places : ℕ × ℕ → Option ℕ}
    {names : ℕ × List ℕ → Option ℕ}
    → IsQueues units lanes board places names → ((r : ℕ) → is_ready (slice_get units r) (slice_get board.heads r) ≡ false)
    → find (may_go (seen units lanes)) (seen units lanes).units ≡ None
no-offer {units} {lanes} it none =
    find-map (may_go (seen units lanes)) (seen_unit lanes) (filter is_live units)
    ∙ ap (option_map (seen_unit lanes)) (find-none (λ (v : Entry). may_go (seen units lanes) (seen_unit lanes v)) units
    (λ r v at_r live. ready-is it r v at_r live ∙ none r))

-- the unit at a place that may go is offered
pub offered-place : {units : List Entry} {lanes : List Lane} {board : Board} {places : ℕ × ℕ → Option ℕ}
    {names : ℕ × List ℕ → Option ℕ}
    → IsQueues units lanes board places names → (p : ℕ) (u : Entry) → slice_get units p ≡ Some u →
    is_ready (slice_get units p) (slice_get board.heads p) ≡ true
    → is_offered u.tid (seen units lanes) ≡ true
offered-place {units} {board = board} it p u at_p ready =
    let there = ready-unit units board.heads p ready in
    let same : there.0 ≡ u = cc (there.1, at_p) in
    let live : u.live ≡ true = ap (λ (v : Entry). v.live) (sym same) ∙ there.2 in
    offered-at it u.tid p u (it.placed.placed p u at_p live) at_p live ∙ ready
