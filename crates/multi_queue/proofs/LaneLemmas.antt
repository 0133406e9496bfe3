-- Queues whose entries or stops change, and queues that are used for the first time.
use Rattle.std.specs.Prelude.{filter, slice_get, slice_set, not, ◌&&◌}
use Rattle.std.specs.List.{filter_map, cons_option}
use Rattle.std.specs.Option.{option_map}
use Rattle.std.specs.Cmp.Lexicographic.{slice_cmp, lists_ties, bytes_decides, pointwise}
use Rattle.std.specs.Ordering.{nat_cmp, is_eq, eq_by_cmp}
use Rattle.std.proofs.Common.{◌≡◌, ◌<◌, ◌≤◌, ◌+◌, ℕ, zero, suc, nat_eq, Bool, true, false, ◌||◌, cond, Option, Some, None, List, [], ◌∷◌, ◌++◌, length, map}
use Rattle.std.proofs.Common.{inl, inr, ◌⊎◌, refl, sym, ap, subst, ◌∙◌, arith, append_assoc, append-nil, length-append}
use Rattle.std.proofs.lemmas.Bool.{cases_Bool, both_ways, false_from_ne_true}
use Rattle.std.proofs.lemmas.Bool.Decides.{eqb_tells, nat_tests}
use Rattle.std.proofs.lemmas.Option.{slice_get_within}
use Rattle.std.proofs.lemmas.List.{length-set}
use Rattle.ale_base.specs.QueueName.{IsQueueName}
use Rattle.plain_queues.specs.declared.queue_key.QueueKey.{QueueKey}
use Rattle.plain_queues.specs.declared.queued_unit.QueuedUnit.{QueuedUnit}
use Rattle.plain_queues.specs.Keys.{is_key, has_key}
use Rattle.plain_queues.specs.Changes.{Stops, Starts}
use Rattle.plain_queues.proofs.OfferedLemmas.{is_key-same, is_key-true}
use Rattle.multi_queue.specs.declared.board.Board.{Board}
use Rattle.multi_queue.specs.declared.entry.Entry.{Entry}
use Rattle.multi_queue.specs.declared.entry.Lane.{Lane}
use Rattle.multi_queue.specs.Counted.{has, standing, is_live, count_but, tells, AreKept, KeepsLanes, KeepsKeys, Grows, SetsStop}
use Rattle.multi_queue.specs.Seen.{key_at, seen_unit, seen, name_of, names_cmp, IsNamed, IsQueues, AreKnown}
use Rattle.ale_base.proofs.ListLemmas.{slice_get-within}
use Rattle.multi_queue.proofs.CountedLemmas.{set-here, set-there}
use Rattle.multi_queue.proofs.SeenLemmas.{one_number}
use Rattle.multi_queue.proofs.OfferLemmas.{stops-none, stops-there, known-here, known-later}

-- ---- queues whose keys stay

pub lanes-keys : (lanes after : List Lane) → KeepsLanes lanes after → KeepsKeys lanes after
lanes-keys lanes after it = record { count = it.count; keys = λ q x y a b. (it.keeps q x y a b).0 }

-- the queues are looked up as before
pub named-kept : (lanes after : List Lane) (names : ℕ × List ℕ → Option ℕ) → KeepsKeys lanes after → IsNamed lanes names → IsNamed after names
named-kept lanes after names keeps it = record {
  known = λ name q h.
      let there = it.known name q h in
      let now = slice_get-within after q (omega (arith, slice_get_within lanes q there.0 there.1, keeps.count)) in
      (now.0, now.1, ap name_of (keeps.keys q there.0 now.0 there.1 now.1) ∙ there.2);
  named = λ q w at_q.
      let old = slice_get-within lanes q (omega (arith, slice_get_within after q w at_q, keeps.count)) in
      ap (λ (k : QueueKey). names (name_of k)) (keeps.keys q old.0 w old.1 at_q) ∙ it.named q old.0 old.1;
  proper = λ q w at_q.
      let old = slice_get-within lanes q (omega (arith, slice_get_within after q w at_q, keeps.count)) in
      subst (λ (k : QueueKey). IsQueueName k.name) (sym (keeps.keys q old.0 w old.1 at_q)) (it.proper q old.0 old.1);
}

keeps-later : (w x : Lane) (ws xs : List Lane) → KeepsKeys (w ∷ ws) (x ∷ xs) → KeepsKeys ws xs
keeps-later w x ws xs it = record { count = (let e = it.count in omega arith); keys = λ q a b. it.keys (suc q) a b }

-- the keys of all numbers are as before
keys-kept : (lanes after : List Lane) → KeepsKeys lanes after → (q : ℕ) → key_at after q ≡ key_at lanes q
keys-kept [] [] it q = refl
keys-kept [] (x ∷ xs) it q = absurd (let e = it.count in omega arith)
keys-kept (w ∷ ws) [] it q = absurd (let e = it.count in omega arith)
keys-kept (w ∷ ws) (x ∷ xs) it zero = ap (λ (k : QueueKey). Some k) (it.keys 0 w x refl refl)
keys-kept (w ∷ ws) (x ∷ xs) it (suc q) = keys-kept ws xs (keeps-later w x ws xs it) q

abbrev seen_by : (ℕ → Option QueueKey) → Entry → QueuedUnit
seen_by f u = record { tid = u.tid; keys = filter_map f u.queues; claim = u.claim; mark = u.mark }

-- the units are seen as before
pub units-kept : (lanes after : List Lane) → KeepsKeys lanes after → (us : List Entry) → map (seen_unit after) us ≡ map (seen_unit lanes) us
units-kept lanes after keeps us =
    let same : key_at after ≡ key_at lanes = λ i q. keys-kept lanes after keeps q i in
    ap (λ (f : ℕ → Option QueueKey). map (λ (u : Entry). seen_by f u) us) same

-- the queue at a number that has a key
pub lane-of_key : (lanes : List Lane) (q : ℕ) (key : QueueKey) → key_at lanes q ≡ Some key → (w : Lane) × (slice_get lanes q ≡ Some w) × (w.key ≡ key)
lane-of_key lanes q key is = by (slice_get lanes q) refl is
  where
    by : (o : Option Lane) → slice_get lanes q ≡ o → option_map (λ (lane : Lane). lane.key) o ≡ Some key →
        (w : Lane) × (slice_get lanes q ≡ Some w) × (w.key ≡ key)
    by None at is = absurd (cc)
    by (Some w) at is = (w, at, (let same : w.key ≡ key = cc in same))

-- ---- a queue is stopped or started

pub stop-keys : (q : ℕ) (b : Bool) (lanes after : List Lane) (w : Lane) → slice_get lanes q ≡ Some w → SetsStop q b lanes after → KeepsKeys lanes after
stop-keys q b lanes after w at_q it =
    let v : Lane = record w { stopped = b } in
    let e = it.sets w at_q in
    record {
      count = ap (λ (l : List Lane). length l) e ∙ length-set lanes q v;
      keys = λ r x y at_x at_y.
          let now : slice_get (slice_set lanes q v) r ≡ Some y = ap (λ (l : List Lane). slice_get l r) (sym e) ∙ at_y in
          elim (eqb_tells q r) [
            | inl same ↦
                let wx : w ≡ x = cc (at_q, at_x, same.1) in
                let vy : v ≡ y = cc (set-here lanes q w v at_q, now, same.1) in
                ap (λ (l : Lane). l.key) (sym vy) ∙ ap (λ (l : Lane). l.key) wx
            | inr other ↦ let xy : x ≡ y = cc (set-there lanes q r v other.1, now, at_x) in ap (λ (l : Lane). l.key) (sym xy)
          ];
    }

abbrev stopped_keys : List Lane → List QueueKey
stopped_keys lanes = map (λ (lane : Lane). lane.key) (filter (λ (lane : Lane). lane.stopped) lanes)

-- the stops of all other queues stay
stops-other : (other : QueueKey) (lanes : List Lane) (q : ℕ) (w v : Lane) → slice_get lanes q ≡ Some w → is_key w.key other ≡ false → v.key ≡ w.key
    → has_key other (stopped_keys (slice_set lanes q v)) ≡ has_key other (stopped_keys lanes)
stops-other other [] q w v at_q differs same = refl
stops-other other (x ∷ xs) zero w v at_q differs same =
    let e : x ≡ w = cc in
    without v (ap (λ (k : QueueKey). is_key k other) same ∙ differs) ∙ sym (without x (ap (λ (l : Lane). is_key l.key other) e ∙ differs))
  where
    without : (y : Lane) → is_key y.key other ≡ false → has_key other (stopped_keys (y ∷ xs)) ≡ has_key other (stopped_keys xs)
    without y differs = elim y.stopped as (λ b.
        has_key other (map (λ (lane : Lane). lane.key) (cond b (y ∷ filter (λ (lane : Lane). lane.stopped) xs) (filter (λ (lane : Lane). lane.stopped) xs)))
        ≡ has_key other (stopped_keys xs)) [
          | true ↦ ap (λ b. b || has_key other (stopped_keys xs)) differs
          | false ↦ refl
        ]
stops-other other (x ∷ xs) (suc q) w v at_q differs same =
    let rest = stops-other other xs q w v at_q differs same in
    elim x.stopped as (λ b. has_key other (map (λ (lane : Lane). lane.key)
    (cond b (x ∷ filter (λ (lane : Lane). lane.stopped) (slice_set xs q v)) (filter (λ (lane : Lane). lane.stopped) (slice_set xs q v))))
    ≡ has_key other (map (λ (lane : Lane). lane.key) (cond b (x ∷ filter (λ (lane : Lane). lane.stopped) xs) (filter (λ (lane : Lane). lane.stopped) xs)))) [
      | true ↦ ap (λ b. is_key x.key other || b) rest
      | false ↦ rest
    ]

-- what is seen of a stop
pub seen-stop : (units : List Entry) (lanes after : List Lane) (names : ℕ × List ℕ → Option ℕ) (q : ℕ) (w : Lane) → IsNamed lanes names →
    slice_get lanes q ≡ Some w
    → SetsStop q true lanes after → Stops w.key (seen units lanes) (seen units after)
seen-stop units lanes after names q w it at_q sets = record {
  units = units-kept lanes after (stop-keys q true lanes after w at_q sets) (filter is_live units);
  stops = λ other.
      let e = sets.sets w at_q in
      let v : Lane = record w { stopped = true } in
      ap (λ (l : List Lane). has_key other (stopped_keys l)) e
      ∙ elim (cases_Bool (is_key w.key other)) [
        | inl its ↦ stops-there other (slice_set lanes q v) q v (set-here lanes q w v at_q) its refl
            ∙ sym (ap (λ b. b || has_key other (stopped_keys lanes)) its)
        | inr differs ↦ stops-other other lanes q w v at_q differs refl ∙ sym (ap (λ b. b || has_key other (stopped_keys lanes)) differs)
      ];
}

-- what is seen of a start
pub seen-start : (units : List Entry) (lanes after : List Lane) (names : ℕ × List ℕ → Option ℕ) (q : ℕ) (w : Lane) → IsNamed lanes names →
    slice_get lanes q ≡ Some w
    → SetsStop q false lanes after → Starts w.key (seen units lanes) (seen units after)
seen-start units lanes after names q w it at_q sets = record {
  units = units-kept lanes after (stop-keys q false lanes after w at_q sets) (filter is_live units);
  stops = λ other.
      let e = sets.sets w at_q in
      let v : Lane = record w { stopped = false } in
      ap (λ (l : List Lane). has_key other (stopped_keys l)) e
      ∙ elim (cases_Bool (is_key w.key other)) [
        | inl its ↦ stops-none other (slice_set lanes q v) (λ r x at_r same.
            elim (eqb_tells q r) [
              | inl here ↦ let vx : v ≡ x = cc (set-here lanes q w v at_q, at_r, here.1) in ap (λ (l : Lane). l.stopped) (sym vx)
              | inr there ↦
                  let old : slice_get lanes r ≡ Some x = sym (set-there lanes q r v there.1) ∙ at_r in
                  let keys : w.key ≡ x.key = is_key-true w.key other its ∙ sym (is_key-true x.key other same) in
                  absurd (there.1 (one_number lanes names q r w x it at_q old (subst (λ (k : QueueKey). is_key w.key k ≡ true) keys (is_key-same w.key))))
            ])
            ∙ sym (ap (λ b. not b && has_key other (stopped_keys lanes)) its)
        | inr differs ↦ stops-other other lanes q w v at_q differs refl ∙ sym (ap (λ b. not b && has_key other (stopped_keys lanes)) differs)
      ];
}

-- a start of a queue that none is changes nothing
pub start-nothing : (key : QueueKey) (units : List Entry) (lanes : List Lane) → ((q : ℕ) (w : Lane) → slice_get lanes q ≡ Some w → is_key w.key key ≡ false)
    → Starts key (seen units lanes) (seen units lanes)
start-nothing key units lanes none = record {
  units = refl;
  stops = λ other. elim (cases_Bool (is_key key other)) [
    | inl its ↦ stops-none other lanes (λ r x at_r same.
        absurd (both_ways (is_key x.key key) (none r x at_r) (subst (λ (k : QueueKey). is_key x.key k ≡ true) (sym (is_key-true key other its)) same)))
        ∙ sym (ap (λ b. not b && has_key other (stopped_keys lanes)) its)
    | inr differs ↦ sym (ap (λ b. not b && has_key other (stopped_keys lanes)) differs)
  ];
}

-- ---- queues that are used for the first time

pub get-front : {X : Type 0} (xs ys : List X) (i : ℕ) (x : X) → slice_get xs i ≡ Some x → slice_get (xs ++ ys) i ≡ Some x
get-front [] ys i x got = cc
get-front (y ∷ xs) ys zero x got = got
get-front (y ∷ xs) ys (suc i) x got = get-front xs ys i x got

pub get-end : {X : Type 0} (xs : List X) (y : X) → slice_get (xs ++ y ∷ []) (length xs) ≡ Some y
get-end [] y = refl
get-end (x ∷ xs) y = get-end xs y

-- an item of two lists is in the first or in the second
pub get-split : {X : Type 0} (xs ys : List X) (i : ℕ) (x : X) → slice_get (xs ++ ys) i ≡ Some x
    → (slice_get xs i ≡ Some x) ⊎ ((j : ℕ) × (i ≡ length xs + j) × (slice_get ys j ≡ Some x))
get-split [] ys i x got = inr (i, omega arith, got)
get-split (y ∷ xs) ys zero x got = inl got
get-split (y ∷ xs) ys (suc i) x got = elim (get-split xs ys i x got) [ inl front ↦ inl front | inr (j, at, back) ↦ inr (j, omega (arith, at), back) ]

pub grows-none : (lanes : List Lane) → Grows lanes lanes
grows-none lanes = record { more = []; all = sym (append-nil lanes); fresh = λ i w at. cc }

pub grows-both : (a b c : List Lane) → Grows a b → Grows b c → Grows a c
grows-both a b c one two = record {
  more = one.more ++ two.more;
  all = two.all ∙ ap (λ (l : List Lane). l ++ two.more) one.all ∙ append_assoc a one.more two.more;
  fresh = λ i w at. elim (get-split one.more two.more i w at) [ inl front ↦ one.fresh i w front | inr (j, e, back) ↦ two.fresh j w back ];
}

-- a queue that is there stays there
pub grows-get : (lanes after : List Lane) (q : ℕ) (w : Lane) → Grows lanes after → slice_get lanes q ≡ Some w → slice_get after q ≡ Some w
grows-get lanes after q w it at_q = ap (λ (l : List Lane). slice_get l q) it.all ∙ get-front lanes it.more q w at_q

pub grows-length : (lanes after : List Lane) → Grows lanes after → length lanes ≤ length after
grows-length lanes after it = omega (arith, ap (λ (l : List Lane). length l) it.all, length-append lanes it.more)

-- names that compare as equal are equal
names-equal : (a b : ℕ × List ℕ) → is_eq (names_cmp a b) ≡ true → a ≡ b
names-equal (a, ms) (b, ns) same =
    let ties : pointwise nat_eq (a ∷ ms) (b ∷ ns) ≡ eq_by_cmp (slice_cmp nat_cmp) (a ∷ ms) (b ∷ ns) = lists_ties nat_cmp (λ x y. ties-one x y) (a ∷ ms)
    (b ∷ ns) in
    let e : (a ∷ ms) ≡ (b ∷ ns) = (bytes_decides (a ∷ ms) (b ∷ ns)).0 (ties ∙ same) in
    let first : a ≡ b = cc in
    let rest : ms ≡ ns = cc in
    λ i. (first i, rest i)
  where
    ties-one : (x y : ℕ) → nat_eq x y ≡ eq_by_cmp nat_cmp x y
    ties-one x y = grind (arith, nat_tests)

-- a queue that gets its number is named, and all others are as before
pub named-new : (lanes : List Lane) (names after : ℕ × List ℕ → Option ℕ) (w : Lane) → IsNamed lanes names → names (name_of w.key) ≡ None →
    IsQueueName w.key.name
    → ((name : ℕ × List ℕ) → after name ≡ cond (is_eq (names_cmp (name_of w.key) name)) (Some (length lanes)) (names name)) →
    after (name_of w.key) ≡ Some (length lanes)
    → IsNamed (lanes ++ w ∷ []) after
named-new lanes names after w it new proper others here = record {
  known = λ name q h.
      elim (cases_Bool (is_eq (names_cmp (name_of w.key) name))) [
        | inl same ↦
            let e = names-equal (name_of w.key) name same in
            let at : Some (length lanes) ≡ Some q = sym here ∙ ap after e ∙ h in
            let number : length lanes ≡ q = cc in
            (w, subst (λ i. slice_get (lanes ++ w ∷ []) i ≡ Some w) number (get-end lanes w), e)
        | inr differs ↦
            let old : names name ≡ Some q = sym (ap (λ b. cond b (Some (length lanes)) (names name)) differs) ∙ sym (others name) ∙ h in
            let there = it.known name q old in
            (there.0, get-front lanes (w ∷ []) q there.0 there.1, there.2)
      ];
  named = λ q v at_q. elim (get-split lanes (w ∷ []) q v at_q) [
    | inl front ↦
        let old = it.named q v front in
        elim (cases_Bool (is_eq (names_cmp (name_of w.key) (name_of v.key)))) [
          | inl same ↦ absurd (let e = ap names (names-equal (name_of w.key) (name_of v.key) same) in cc (e, old, new))
          | inr differs ↦ others (name_of v.key) ∙ ap (λ b. cond b (Some (length lanes)) (names (name_of v.key))) differs ∙ old
        ]
    | inr (j, e, back) ↦ last j v e back
  ];
  proper = λ q v at_q. elim (get-split lanes (w ∷ []) q v at_q) [
    | inl front ↦ it.proper q v front
    | inr (j, e, back) ↦ subst (λ (k : QueueKey). IsQueueName k.name) (ap (λ (l : Lane). l.key) (the-last j v back)) proper
  ];
}
  where
    the-last : (j : ℕ) (v : Lane) → slice_get (w ∷ []) j ≡ Some v → w ≡ v
    the-last zero v back = cc
    the-last (suc j) v back = absurd (cc)

    last : {q : ℕ} (j : ℕ) (v : Lane) → q ≡ length lanes + j → slice_get (w ∷ []) j ≡ Some v → after (name_of v.key) ≡ Some q
    last zero v e back =
        let z : length lanes ≡ length lanes + 0 = omega arith in
        ap (λ (l : Lane). after (name_of l.key)) (sym (the-last zero v back)) ∙ here ∙ ap (λ i. Some i) (z ∙ sym e)
    last (suc j) v e back = absurd (cc)

standing-nobody : (q n : ℕ) (units : List Entry) → ((p : ℕ) (u : Entry) → slice_get units p ≡ Some u → has q u.queues ≡ false) → standing q n units ≡ []
standing-nobody q n [] none = refl
standing-nobody q n (u ∷ us) none =
    ap (λ b. cond b (n ∷ standing q (n + 1) us) (standing q (n + 1) us)) (none 0 u refl) ∙ standing-nobody q (n + 1) us (λ p v at. none (suc p) v at)

count-front : (lanes more : List Lane) (p : ℕ) (qs : List ℕ) → AreKnown qs lanes → count_but None (lanes ++ more) p qs ≡ count_but None lanes p qs
count-front lanes more p [] known = refl
count-front lanes more p (q ∷ qs) known =
    let at = slice_get-within lanes q (known q (known-here q qs)) in
    let front : slice_get (lanes ++ more) q ≡ slice_get lanes q = get-front lanes more q at.0 at.1 ∙ sym at.1 in
    ap (λ o. cond (tells p o) 1 0 + count_but None (lanes ++ more) p qs) front
    ∙ ap (λ n. cond (tells p (slice_get lanes q)) 1 0 + n) (count-front lanes more p qs (λ r h. known r (known-later q r qs h)))

-- keys of queues that are known stay
pub keys-front : (lanes more : List Lane) (qs : List ℕ) → AreKnown qs lanes → filter_map (key_at (lanes ++ more)) qs ≡ filter_map (key_at lanes) qs
keys-front lanes more [] known = refl
keys-front lanes more (q ∷ qs) known =
    let at = slice_get-within lanes q (known q (known-here q qs)) in
    let front : slice_get (lanes ++ more) q ≡ slice_get lanes q = get-front lanes more q at.0 at.1 ∙ sym at.1 in
    ap (λ o. cons_option (option_map (λ (lane : Lane). lane.key) o) (filter_map (key_at (lanes ++ more)) qs)) front
    ∙ ap (λ (l : List QueueKey). cons_option (key_at lanes q) l) (keys-front lanes more qs (λ r h. known r (known-later q r qs h)))

units-front : (lanes more : List Lane) (units : List Entry) → ((p : ℕ) (u : Entry) → slice_get units p ≡ Some u → AreKnown u.queues lanes)
    → map (seen_unit (lanes ++ more)) (filter is_live units) ≡ map (seen_unit lanes) (filter is_live units)
units-front lanes more [] known = refl
units-front lanes more (u ∷ us) known =
    let rest = units-front lanes more us (λ p v at. known (suc p) v at) in
    elim u.live as (λ b. map (seen_unit (lanes ++ more)) (cond b (u ∷ filter is_live us) (filter is_live us))
    ≡ map (seen_unit lanes) (cond b (u ∷ filter is_live us) (filter is_live us))) [
      | true ↦ ap (λ (keys : List QueueKey). record { tid = u.tid; keys = keys; claim = u.claim; mark = u.mark }
          ∷ map (seen_unit (lanes ++ more)) (filter is_live us)) (keys-front lanes more u.queues (known 0 u refl))
          ∙ ap (λ (l : List QueuedUnit). seen_unit lanes u ∷ l) rest
      | false ↦ rest
    ]

stops-front : (lanes more : List Lane) → ((i : ℕ) (w : Lane) → slice_get more i ≡ Some w → (w.stopped ≡ false) × (w.line ≡ [])) →
    stopped_keys (lanes ++ more) ≡ stopped_keys lanes
stops-front [] [] fresh = refl
stops-front [] (w ∷ ws) fresh =
    ap (λ b. map (λ (lane : Lane). lane.key) (cond b (w ∷ filter (λ (lane : Lane). lane.stopped) ws) (filter (λ (lane : Lane). lane.stopped) ws)))
    (fresh 0 w refl).0
    ∙ stops-front [] ws (λ i v at. fresh (suc i) v at)
stops-front (x ∷ xs) more fresh =
    let rest = stops-front xs more fresh in
    elim x.stopped as (λ b. map (λ (lane : Lane). lane.key)
    (cond b (x ∷ filter (λ (lane : Lane). lane.stopped) (xs ++ more)) (filter (λ (lane : Lane). lane.stopped) (xs ++ more)))
    ≡ map (λ (lane : Lane). lane.key) (cond b (x ∷ filter (λ (lane : Lane). lane.stopped) xs) (filter (λ (lane : Lane). lane.stopped) xs))) [
      | true ↦ ap (λ (l : List QueueKey). x.key ∷ l) rest
      | false ↦ rest
    ]

module _ {units : List Entry} {lanes : List Lane} {board : Board} {places : ℕ × ℕ → Option ℕ} {names : ℕ × List ℕ → Option ℕ}
    (it : IsQueues units lanes board places names) where
  -- what the lists keep where a queue is stopped or started
  pub stop-keeps : (q : ℕ) (b : Bool) (w : Lane) (units2 : List Entry) (after : List Lane) (board2 : Board) → slice_get lanes q ≡ Some w →
      units2 ≡ units → SetsStop q b lanes after → AreKept None units2 after board2 → IsQueues units2 after board2 places names
  stop-keeps q b w units2 after board2 at_q same sets kept = subst (λ (l : List Entry). IsQueues l after board2 places names) (sym same) (record {
    kept = subst (λ (l : List Entry). AreKept None l after board2) same kept;
    placed = it.placed;
    named = named-kept lanes after names (stop-keys q b lanes after w at_q sets) it.named;
    gone = it.gone;
    claims = it.claims;
  })

  -- what the lists keep where queues get numbers
  pub grow-keeps : (after : List Lane) (names2 : ℕ × List ℕ → Option ℕ) → Grows lanes after → IsNamed after names2 →
      IsQueues units after board places names2
  grow-keeps after names2 grows named = record {
    kept = record {
      counted = record {
        all = it.kept.counted.all;
        lines = λ q w at_q. elim (get-split lanes grows.more q w (ap (λ (l : List Lane). slice_get l q) (sym grows.all) ∙ at_q)) [
          | inl front ↦ it.kept.counted.lines q w front
          | inr (j, e, back) ↦ (grows.fresh j w back).1 ∙ sym (standing-nobody q 0 units (λ p u at_p. false_from_ne_true (has q u.queues) (λ h.
              let within : q < length lanes = it.kept.counted.known p u q at_p h in absurd (omega (arith, within, e)))))
        ];
        counts = λ p u h at_p at_h. it.kept.counted.counts p u h at_p at_h
            ∙ sym (ap (λ (l : List Lane). count_but None l p u.queues) grows.all
            ∙ count-front lanes grows.more p u.queues (λ q k. it.kept.counted.known p u q at_p k));
        differ = it.kept.counted.differ;
        few = it.kept.counted.few;
        known = λ p u q at_p h. omega (arith, it.kept.counted.known p u q at_p h, grows-length lanes after grows);
      };
      leaves = it.kept.leaves;
    };
    placed = it.placed;
    named = named;
    gone = it.gone;
    claims = it.claims;
  }

  pub seen-grow : (after : List Lane) → Grows lanes after → seen units after ≡ seen units lanes
  seen-grow after grows =
      let us = units-front lanes grows.more units (λ p u at_p q h. it.kept.counted.known p u q at_p h) in
      let stops = stops-front lanes grows.more grows.fresh in
      ap (λ (l : List Lane). seen units l) grows.all ∙ (λ i. record { units = us i; stops = stops i })
