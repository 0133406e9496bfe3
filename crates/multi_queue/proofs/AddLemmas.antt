-- What the lists keep, and what is seen of them, where a unit is added.
use Rattle.std.specs.Prelude.{filter, slice_get, slice_set, not}
use Rattle.std.specs.List.{filter_map, cons_option}
use Rattle.std.specs.Option.{option_map, is_none}
use Rattle.std.proofs.Common.{◌≡◌, ◌<◌, ◌≤◌, ◌+◌, ◌^◌, ℕ, zero, suc, nat_eq, Bool, true, false, ◌||◌, ◌&&◌, cond, Option, Some, None, List, [], ◌∷◌, ◌++◌}
use Rattle.std.proofs.Common.{length, map, inl, inr, refl, sym, ap, subst, ◌∙◌, arith, length-append}
use Rattle.std.specs.Cmp.Lexicographic.{slice_cmp, lists_ties, bytes_decides, pointwise}
use Rattle.std.specs.Ordering.{nat_cmp, is_eq, eq_by_cmp, ordering_then}
use Rattle.std.specs.declared.cmp.Ordering.{Ordering}
use Rattle.std.specs.declared.cmp.Ordering.TheVariants.{Less, Equal, Greater}
use Rattle.std.proofs.lemmas.Bool.{cases_Bool, both_ways}
use Rattle.std.proofs.lemmas.Bool.Decides.{eqb_tells, nat_tests}
use Rattle.std.proofs.lemmas.Option.{slice_get_within}
use Rattle.std.proofs.lemmas.List.{map-append}
use Rattle.ale_base.specs.Tid.{TidOf}
use Rattle.plain_queues.specs.declared.queue_key.QueueKey.{QueueKey}
use Rattle.plain_queues.specs.Keys.{keys_differ}
use Rattle.plain_queues.specs.Queues.{unit_of}
use Rattle.plain_queues.specs.Changes.{added, new_unit}
use Rattle.multi_queue.specs.declared.board.Board.{Board}
use Rattle.multi_queue.specs.declared.counting.Counting.{Counting}
use Rattle.multi_queue.specs.declared.entry.Entry.{Entry}
use Rattle.multi_queue.specs.declared.entry.Lane.{Lane}
use Rattle.multi_queue.specs.Counted.{has, differ, standing, is_live, is_ready, count_but, HeadsAll, IsCounted, IsBoardBut, AreKept, IsKept, KeepsLanes, Grows}
use Rattle.multi_queue.specs.Counted.{AreNewQueues}
use Rattle.multi_queue.specs.Counted.{IsEntered, behind, new_entry}
use Rattle.multi_queue.specs.Seen.{key_at, seen_unit, seen, number_of, numbers_cmp, IsPlaced, IsNamed, IsQueues, IsNew, AreKnown, AreNumbersOf}
use Rattle.ale_base.proofs.ListLemmas.{slice_get-within}
use Rattle.multi_queue.proofs.CountedLemmas.{set-here, set-there, standing-same, standing-joined, has-snoc}
use Rattle.multi_queue.proofs.SeenLemmas.{has-key_at, unit_of-here}
use Rattle.multi_queue.proofs.LaneLemmas.{lanes-keys, named-kept, units-kept, keys-front, get-front, get-end, get-split, grows-length, lane-of_key}
use Rattle.multi_queue.proofs.FinishLemmas.{stops-kept}
use Rattle.multi_queue.proofs.OfferLemmas.{known-here, known-later}

-- ---- the numbers of keys

filter_map-end : {X Y : Type 0} (f : X → Option Y) (xs : List X) (x : X) (y : Y) → f x ≡ Some y → filter_map f (xs ++ x ∷ []) ≡ filter_map f xs ++ y ∷ []
filter_map-end f [] x y is = ap (λ o. cons_option o []) is
filter_map-end f (z ∷ zs) x y is = ap (cons_option (f z)) (filter_map-end f zs x y is) ∙ over (f z) (filter_map f zs) (y ∷ [])
  where
    over : {Y : Type 0} (o : Option Y) (xs ys : List Y) → cons_option o (xs ++ ys) ≡ cons_option o xs ++ ys
    over None xs ys = refl
    over (Some v) xs ys = refl

-- one key more has its number
pub numbers-more : (keys : List QueueKey) (key : QueueKey) (lanes after : List Lane) (qs : List ℕ) (q : ℕ) → Grows lanes after → AreNumbersOf keys lanes qs →
    key_at after q ≡ Some key
    → AreNumbersOf (keys ++ key ∷ []) after (qs ++ q ∷ [])
numbers-more keys key lanes after qs q grows it is = record {
  same = filter_map-end (key_at after) qs q key is
      ∙ ap (λ (l : List QueueKey). l ++ key ∷ []) (ap (λ (l : List Lane). filter_map (key_at l) qs) grows.all ∙ keys-front lanes grows.more qs it.known
      ∙ it.same);
  known = λ r h. elim (eqb_tells r q) [
    | inl e ↦ let at = lane-of_key after q key is in omega (arith, slice_get_within after q at.0 at.1, e.1)
    | inr e ↦ omega (arith, it.known r (sym (has-snoc r q qs ∙ ap (λ b. has r qs || b) e.0 ∙ or_false (has r qs)) ∙ h), grows-length lanes after grows)
  ];
  count = omega (arith, it.count, length-append qs (q ∷ []), length-append keys (key ∷ []));
}
  where
    or_false : (b : Bool) → (b || false) ≡ b
    or_false true = refl
    or_false false = refl

differ-keys : (lanes : List Lane) (names : ℕ × List ℕ → Option ℕ) (qs : List ℕ) → IsNamed lanes names → AreKnown qs lanes →
    keys_differ (filter_map (key_at lanes) qs) ≡ differ qs
differ-keys lanes names [] it known = refl
differ-keys lanes names (q ∷ qs) it known =
    let at = slice_get-within lanes q (known q (known-here q qs)) in
    let w : Lane = at.0 in
    let later : AreKnown qs lanes = λ r h. known r (known-later q r qs h) in
    ap (λ o. keys_differ (cons_option (option_map (λ (lane : Lane). lane.key) o) (filter_map (key_at lanes) qs))) at.1
    ∙ ap (λ b. not b && keys_differ (filter_map (key_at lanes) qs)) (has-key_at lanes names q w qs it at.1 later)
    ∙ ap (λ b. not (has q qs) && b) (differ-keys lanes names qs it later)

-- the numbers of keys that differ, at most eight
pub new-queues : (keys : List QueueKey) (lanes : List Lane) (names : ℕ × List ℕ → Option ℕ) (qs : List ℕ) → IsNamed lanes names → AreNumbersOf keys lanes qs →
    keys_differ keys ≡ true → length keys ≤ 8
    → AreNewQueues qs lanes
new-queues keys lanes names qs named it different few = record {
  apart = sym (differ-keys lanes names qs named it.known) ∙ ap keys_differ it.same ∙ different;
  few = omega (arith, it.count);
  known = it.known;
}

-- ---- a unit behind all others, which is in no queue and not live

get-end_only : {X : Type 0} (y x : X) (j : ℕ) → slice_get (y ∷ []) j ≡ Some x → y ≡ x
get-end_only y x zero at = cc
get-end_only y x (suc j) at = absurd (cc)

standing-behind : (tid : TidOf) (q n : ℕ) (units : List Entry) → standing q n (units ++ new_entry tid ∷ []) ≡ standing q n units
standing-behind tid q n [] = refl
standing-behind tid q n (u ∷ us) = ap (λ l. cond (has q u.queues) (n ∷ l) l) (standing-behind tid q (n + 1) us)

live-behind : (tid : TidOf) (units : List Entry) → filter is_live (units ++ new_entry tid ∷ []) ≡ filter is_live units
live-behind tid [] = refl
live-behind tid (u ∷ us) = ap (λ l. cond u.live (u ∷ l) l) (live-behind tid us)

pub seen-behind : (tid : TidOf) (units : List Entry) (lanes : List Lane) → seen (units ++ new_entry tid ∷ []) lanes ≡ seen units lanes
seen-behind tid units lanes = ap (λ (us : List Entry). record (seen units lanes) { units = map (seen_unit lanes) us }) (live-behind tid units)

ready-behind : (tid : TidOf) (units : List Entry) (counts : List ℕ) (p : ℕ) → length counts ≡ length units
    → is_ready (slice_get (units ++ new_entry tid ∷ []) p) (slice_get (counts ++ 0 ∷ []) p) ≡ is_ready (slice_get units p) (slice_get counts p)
ready-behind tid [] [] zero same = refl
ready-behind tid [] [] (suc p) same = refl
ready-behind tid [] (h ∷ hs) p same = absurd (omega arith)
ready-behind tid (u ∷ us) [] p same = absurd (omega arith)
ready-behind tid (u ∷ us) (h ∷ hs) zero same = refl
ready-behind tid (u ∷ us) (h ∷ hs) (suc p) same = ready-behind tid us hs p (omega arith)

-- the tree serves for it where it has a leaf
pub board-behind : (tid : TidOf) (units : List Entry) (board : Board) → length units < 2 ^ board.height → IsBoardBut None units board
    → IsBoardBut None (units ++ new_entry tid ∷ []) (record board { heads = board.heads ++ 0 ∷ [] })
board-behind tid units board room it = record {
  tree = it.tree;
  fits = it.fits;
  room = omega (arith, room, length-append units (new_entry tid ∷ []));
  all = omega (arith, it.all, length-append units (new_entry tid ∷ []), length-append board.heads (0 ∷ []));
  ready = λ p other small. it.ready p other small ∙ sym (ready-behind tid units board.heads p it.all);
}

counted-behind : (tid : TidOf) (units : List Entry) (lanes : List Lane) (counts : List ℕ) → IsCounted None units lanes counts →
    IsCounted None (units ++ new_entry tid ∷ []) lanes (counts ++ 0 ∷ [])
counted-behind tid units lanes counts it = record {
  all = omega (arith, it.all, length-append units (new_entry tid ∷ []), length-append counts (0 ∷ []));
  lines = λ q w at_q. it.lines q w at_q ∙ sym (standing-behind tid q 0 units);
  counts = λ p u h at_p at_h. elim (get-split units (new_entry tid ∷ []) p u at_p) [
    | inl front ↦ elim (get-split counts (0 ∷ []) p h at_h) [
      | inl old ↦ it.counts p u h front old
      | inr (j, e, back) ↦ absurd (let within = slice_get_within units p u front in omega (arith, within, e, it.all))
    ]
    | inr (j, e, back) ↦ elim (get-split counts (0 ∷ []) p h at_h) [
      | inl old ↦ absurd (let within = slice_get_within counts p h old in omega (arith, within, e, it.all))
      | inr (k, f, zero_) ↦ sym (get-end_only 0 h k zero_) ∙ ap (λ (x : Entry). count_but None lanes p x.queues) (get-end_only (new_entry tid) u j back)
    ]
  ];
  differ = λ p u at_p. elim (get-split units (new_entry tid ∷ []) p u at_p) [
    | inl front ↦ it.differ p u front
    | inr (j, e, back) ↦ ap (λ (x : Entry). differ x.queues) (sym (get-end_only (new_entry tid) u j back))
  ];
  few = λ p u at_p. elim (get-split units (new_entry tid ∷ []) p u at_p) [
    | inl front ↦ it.few p u front
    | inr (j, e, back) ↦ subst (λ (x : Entry). length x.queues ≤ 8) (get-end_only (new_entry tid) u j back) (omega arith)
  ];
  known = λ p u q at_p h. elim (get-split units (new_entry tid ∷ []) p u at_p) [
    | inl front ↦ it.known p u q front h
    | inr (j, e, back) ↦ absurd (let none : has q u.queues ≡ false = ap (λ (x : Entry). has q x.queues)
        (sym (get-end_only (new_entry tid) u j back)) in both_ways (has q u.queues) none h)
  ];
}

-- where a tree grew that serves the same counts, all belongs together
pub kept-grown : (counting : Counting) (board : Board) → board.heads ≡ counting.board.heads → (0 < length counting.units → IsBoardBut None counting.units board)
    → IsKept None counting → IsKept None (record counting { board = board })
kept-grown counting board heads leaves it = record {
  counted = subst (λ (l : List ℕ). IsCounted None counting.units counting.lanes l) (sym heads) it.counted;
  leaves = leaves;
}

-- a unit may come behind all others where the tree has a leaf for it
pub kept-behind : (tid : TidOf) (counting : Counting) → length counting.units < 2 ^ counting.board.height → IsBoardBut None counting.units counting.board
    → IsCounted None counting.units counting.lanes counting.board.heads → IsKept None (behind tid counting)
kept-behind tid counting room board counted = record {
  counted = counted-behind tid counting.units counting.lanes counting.board.heads counted;
  leaves = λ _. board-behind tid counting.units counting.board room board;
}

heads-behind : (tid : TidOf) (r : ℕ) (units : List Entry) → r < length units → HeadsAll r units → HeadsAll r (units ++ new_entry tid ∷ [])
heads-behind tid r units within all = record {
  first = λ u q at_r h. elim (get-split units (new_entry tid ∷ []) r u at_r) [
    | inl front ↦ ap (λ l. slice_get l 0) (standing-behind tid q 0 units) ∙ all.first u q front h
    | inr (j, e, back) ↦ absurd (omega (arith, within, e))
  ];
}

-- ---- the new unit is in its queues, and live

-- the last unit is written
set-last : (units : List Entry) (u v : Entry) → slice_set (units ++ u ∷ []) (length units) v ≡ units ++ v ∷ []
set-last [] u v = refl
set-last (x ∷ xs) u v = ap (λ (l : List Entry). x ∷ l) (set-last xs u v)

live-end : (units : List Entry) (v : Entry) → v.live ≡ true → filter is_live (units ++ v ∷ []) ≡ filter is_live units ++ v ∷ []
live-end [] v live = ap (λ b. cond b (v ∷ []) []) live
live-end (u ∷ us) v live =
    ap (λ l. cond u.live (u ∷ l) l) (live-end us v live) ∙ over u.live u (filter is_live us) (v ∷ [])
  where
    over : (b : Bool) (x : Entry) (xs ys : List Entry) → cond b (x ∷ (xs ++ ys)) (xs ++ ys) ≡ cond b (x ∷ xs) xs ++ ys
    over true x xs ys = refl
    over false x xs ys = refl

first-front : (xs : List ℕ) (p r : ℕ) → slice_get xs 0 ≡ Some r → slice_get (xs ++ p ∷ []) 0 ≡ Some r
first-front [] p r at = absurd (cc)
first-front (x ∷ xs) p r at = at

module _ {units : List Entry} {lanes : List Lane} {board : Board} {places : ℕ × ℕ → Option ℕ} {names : ℕ × List ℕ → Option ℕ}
    (it : IsQueues units lanes board places names) where
  -- what the lists keep where there is another tree
  pub board-keeps : (units2 : List Entry) (lanes2 : List Lane) (board2 : Board) (places2 : ℕ × ℕ → Option ℕ) → units2 ≡ units → lanes2 ≡ lanes →
      AreKept None units2 lanes2 board2 → IsPlaced units2 places2 → IsQueues units2 lanes2 board2 places2 names
  board-keeps units2 lanes2 board2 places2 same_units same_lanes kept placed = record {
    kept = kept;
    placed = placed;
    named = subst (λ (l : List Lane). IsNamed l names) (sym same_lanes) it.named;
    gone = subst (λ (l : List Entry). (p : ℕ) (u : Entry) → slice_get l p ≡ Some u → u.live ≡ false → u.queues ≡ []) (sym same_units) it.gone;
    claims = subst (λ (l : List Entry). (p : ℕ) (u : Entry) → slice_get l p ≡ Some u → is_none u.claim ≡ false → (u.live ≡ true) × HeadsAll p l)
        (sym same_units) it.claims;
  }

  -- what they keep where a unit comes behind all others, in no queue and not live
  pub behind-keeps : (tid : TidOf) (lanes2 : List Lane) (board2 : Board) (places2 : ℕ × ℕ → Option ℕ) → lanes2 ≡ lanes →
      AreKept None (units ++ new_entry tid ∷ []) lanes2 board2
      → IsPlaced (units ++ new_entry tid ∷ []) places2 → IsQueues (units ++ new_entry tid ∷ []) lanes2 board2 places2 names
  behind-keeps tid lanes2 board2 places2 same kept placed = record {
    kept = kept;
    placed = placed;
    named = subst (λ (l : List Lane). IsNamed l names) (sym same) it.named;
    gone = λ p u at_p dead. elim (get-split units (new_entry tid ∷ []) p u at_p) [
      | inl front ↦ it.gone p u front dead
      | inr (j, e, back) ↦ ap (λ (x : Entry). x.queues) (sym (get-end_only (new_entry tid) u j back))
    ];
    claims = λ p u at_p busy. elim (get-split units (new_entry tid ∷ []) p u at_p) [
      | inl front ↦ let old = it.claims p u front busy in (old.0, heads-behind tid p units (slice_get_within units p u front) old.1)
      | inr (j, e, back) ↦ absurd (let none : is_none u.claim ≡ true = ap (λ (x : Entry). is_none x.claim)
          (sym (get-end_only (new_entry tid) u j back)) in both_ways (is_none u.claim) busy none)
    ];
  }

  -- what they keep where entries of queues change, and the counts follow
  pub lanes-keep : (after : List Lane) (board2 : Board) → KeepsLanes lanes after → AreKept None units after board2 → IsQueues units after board2 places names
  lanes-keep after board2 keeps kept = record {
    kept = kept;
    placed = it.placed;
    named = named-kept lanes after names (lanes-keys lanes after keeps) it.named;
    gone = it.gone;
    claims = it.claims;
  }

  -- what they keep where the last unit, which is in no queue and not live, is in queues and live
  pub enter-keeps : (p : ℕ) (u : Entry) (qs : List ℕ) (after : List Lane) (board2 : Board) → slice_get units p ≡ Some u →
      length units ≡ p + 1 → u.queues ≡ [] → is_none u.claim ≡ true
      → places (number_of u.tid) ≡ Some p → KeepsLanes lanes after → AreKept None (slice_set units p (record u { queues = qs; live = true })) after board2
      → IsQueues (slice_set units p (record u { queues = qs; live = true })) after board2 places names
  enter-keeps p u qs after board2 at_p last empty free placed keeps kept =
      let v : Entry = record u { queues = qs; live = true } in
      let z : 0 + p ≡ p = omega arith in
      let stands : (q r : ℕ) → slice_get (standing q 0 units) 0 ≡ Some r → slice_get (standing q 0 (slice_set units p v)) 0 ≡ Some r =
      λ q r first. by_has q r first (has q qs) refl in
      record {
        kept = kept;
        placed = record {
          there = λ number r h.
              let old = it.placed.there number r h in
              elim (eqb_tells p r) [
                | inl e ↦
                    let same : u ≡ old.0 = cc (at_p, old.1, e.1) in (
                      v,
                      subst (λ i. slice_get (slice_set units p v) i ≡ Some v) e.1 (set-here units p u v at_p),
                      ap (λ (y : Entry). number_of y.tid) same
                          ∙ old.2,
                    )
                | inr e ↦ (old.0, set-there units p r v e.1 ∙ old.1, old.2)
              ];
          placed = λ r x a l.
              elim (eqb_tells p r) [
                | inl e ↦
                    let same : v ≡ x = cc (set-here units p u v at_p, a, e.1) in
                    ap (λ (y : Entry). places (number_of y.tid)) (sym same) ∙ placed ∙ ap (λ i. Some i) e.1
                | inr e ↦ it.placed.placed r x (sym (set-there units p r v e.1) ∙ a) l
              ];
        };
        named = named-kept lanes after names (lanes-keys lanes after keeps) it.named;
        gone = λ r x a l.
            elim (eqb_tells p r) [
              | inl e ↦ absurd (let same : v ≡ x = cc (set-here units p u v at_p, a, e.1) in let live : x.live
                  ≡ true = ap (λ (y : Entry). y.live) (sym same) in both_ways x.live l live)
              | inr e ↦ it.gone r x (sym (set-there units p r v e.1) ∙ a) l
            ];
        claims = λ r x a f.
            elim (eqb_tells p r) [
              | inl e ↦ absurd (let same : v ≡ x = cc (set-here units p u v at_p, a, e.1) in let none : is_none x.claim
                  ≡ true = ap (λ (y : Entry). is_none y.claim) (sym same) ∙ free in both_ways (is_none x.claim) f none)
              | inr e ↦
                  let old = it.claims r x (sym (set-there units p r v e.1) ∙ a) f in
                  (old.0, record { first = λ y q at_y h. stands q r (old.1.first y q (sym (set-there units p r v e.1) ∙ at_y) h) })
            ];
      }
    where
      by_has : (q r : ℕ) → slice_get (standing q 0 units) 0 ≡ Some r → (b : Bool) → has q qs ≡ b →
          slice_get (standing q 0 (slice_set units p (record u { queues = qs; live = true }))) 0 ≡ Some r
      by_has q r first true h =
          ap (λ l. slice_get l 0) (standing-joined q 0 units p u (record u { queues = qs; live = true }) at_p last (ap (λ l. has q l) empty) h)
          ∙ first-front (standing q 0 units) (0 + p) r first
      by_has q r first false h =
          ap (λ l. slice_get l 0) (standing-same q 0 units p u (record u { queues = qs; live = true }) at_p (h ∙ sym (ap (λ l. has q l) empty))) ∙ first

-- what is seen of the new unit
pub seen-enter : (tid : TidOf) (units : List Entry) (lanes after : List Lane) (keys : List QueueKey) (qs : List ℕ) → KeepsLanes lanes after →
    AreNumbersOf keys lanes qs
    → seen (slice_set (units ++ new_entry tid ∷ []) (length units) (record (new_entry tid) { queues = qs; live = true })) after
    ≡ added tid keys (seen units lanes)
seen-enter tid units lanes after keys qs keeps numbers =
    let v : Entry = record (new_entry tid) { queues = qs; live = true } in
    let us : map (seen_unit after) (filter is_live (slice_set (units ++ new_entry tid ∷ []) (length units) v)) ≡ map (seen_unit lanes) (filter is_live units)
    ++ new_unit tid keys ∷ [] =
    units-kept lanes after (lanes-keys lanes after keeps) (filter is_live (slice_set (units ++ new_entry tid ∷ []) (length units) v))
    ∙ ap (λ (l : List Entry). map (seen_unit lanes) (filter is_live l)) (set-last units (new_entry tid) v)
    ∙ ap (λ (l : List Entry). map (seen_unit lanes) l) (live-end units v refl)
    ∙ map-append (seen_unit lanes) (filter is_live units) (v ∷ [])
    ∙ ap (λ (ks : List QueueKey). map (seen_unit lanes) (filter is_live units) ++ new_unit tid ks ∷ []) numbers.same in
    let stops = stops-kept lanes after keeps in
    λ i. record { units = us i; stops = stops i }

-- ---- the table of places

-- numbers that compare as equal are equal
numbers-equal : (a b : ℕ × ℕ) → is_eq (numbers_cmp a b) ≡ true → a ≡ b
numbers-equal (a, m) (b, n) same =
    let ties : pointwise nat_eq (a ∷ m ∷ []) (b ∷ n ∷ []) ≡ eq_by_cmp (slice_cmp nat_cmp) (a ∷ m ∷ []) (b ∷ n ∷ []) = lists_ties nat_cmp (λ x y. ties-one x y)
    (a ∷ m ∷ []) (b ∷ n ∷ []) in
    let ends : eq_by_cmp (slice_cmp nat_cmp) (a ∷ m ∷ []) (b ∷ n ∷ []) ≡ is_eq (numbers_cmp (a, m) (b, n)) = ap (λ o. is_eq (ordering_then (nat_cmp a b) o))
    (then-equal (nat_cmp m n)) in
    let e : (a ∷ m ∷ []) ≡ (b ∷ n ∷ []) = (bytes_decides (a ∷ m ∷ []) (b ∷ n ∷ [])).0 (ties ∙ ends ∙ same) in
    let first : a ≡ b = cc in
    let second : m ≡ n = cc in
    λ i. (first i, second i)
  where
    ties-one : (x y : ℕ) → nat_eq x y ≡ eq_by_cmp nat_cmp x y
    ties-one x y = grind (arith, nat_tests)

    then-equal : (r : Ordering) → ordering_then r Equal ≡ r
    then-equal Less = refl
    then-equal Equal = refl
    then-equal Greater = refl

-- a unit behind all others is named, and all others are as before
pub placed-behind : (tid : TidOf) (units : List Entry) (places after : ℕ × ℕ → Option ℕ) → IsPlaced units places → IsNew tid units
    → ((number : ℕ × ℕ) → after number ≡ cond (is_eq (numbers_cmp (number_of tid) number)) (Some (length units)) (places number)) →
    IsPlaced (units ++ new_entry tid ∷ []) after
placed-behind tid units places after it new others = record {
  there = λ number p h.
      elim (cases_Bool (is_eq (numbers_cmp (number_of tid) number))) [
        | inl same ↦
            let at : Some (length units) ≡ Some p = sym (ap (λ b. cond b (Some (length units)) (places number)) same) ∙ sym (others number) ∙ h in
            let place : length units ≡ p = cc in (
              new_entry tid,
              subst (λ i. slice_get (units ++ new_entry tid ∷ []) i ≡ Some (new_entry tid)) place (get-end units (new_entry tid)),
              numbers-equal
                  (number_of tid) number same,
            )
        | inr differs ↦
            let old : places number ≡ Some p = sym (ap (λ b. cond b (Some (length units)) (places number)) differs) ∙ sym (others number) ∙ h in
            let there = it.there number p old in
            (there.0, get-front units (new_entry tid ∷ []) p there.0 there.1, there.2)
      ];
  placed = λ p u at_p live. elim (get-split units (new_entry tid ∷ []) p u at_p) [
    | inl front ↦
        elim (cases_Bool (is_eq (numbers_cmp (number_of tid) (number_of u.tid)))) [
          | inl same ↦ absurd (new p u front live (sym (numbers-equal (number_of tid) (number_of u.tid) same)))
          | inr differs ↦ others (number_of u.tid) ∙ ap (λ b. cond b (Some (length units)) (places (number_of u.tid))) differs ∙ it.placed p u front live
        ]
    | inr (j, e, back) ↦ absurd (let dead : u.live ≡ false = ap (λ (x : Entry). x.live) (sym (get-end_only (new_entry tid) u j back)) in both_ways u.live dead
        live)
  ];
}

-- an id that no unit is found by is that of none
pub new-id : (tid : TidOf) (units : List Entry) (lanes : List Lane) (places : ℕ × ℕ → Option ℕ) → IsPlaced units places →
    unit_of tid (seen units lanes) ≡ None → IsNew tid units
new-id tid units lanes places it none p u at_p live same =
    let here = unit_of-here tid units lanes places p u it (ap places (sym same) ∙ it.placed p u at_p live) at_p live in
    cc (here, none)

-- ---- an addition, step by step

pub at-behind : (tid : TidOf) (units after : List Entry) → after ≡ units ++ new_entry tid ∷ [] → slice_get after (length units) ≡ Some (new_entry tid)
at-behind tid units after it = ap (λ (l : List Entry). slice_get l (length units)) it ∙ get-end units (new_entry tid)

pub length-behind : (tid : TidOf) (units after : List Entry) → after ≡ units ++ new_entry tid ∷ [] → length after ≡ length units + 1
length-behind tid units after it = ap (λ (l : List Entry). length l) it ∙ length-append units (new_entry tid ∷ [])

-- what the lists keep once there is a place
pub room-keeps : {units : List Entry} {lanes : List Lane} {board : Board} {places : ℕ × ℕ → Option ℕ} {names : ℕ × List ℕ → Option ℕ}
    → IsQueues units lanes board places names → (tid : TidOf) (units1 : List Entry) (lanes1 : List Lane) (board1 : Board) (places1 : ℕ × ℕ → Option ℕ)
    → lanes1 ≡ lanes → units1 ≡ units ++ new_entry tid ∷ [] → AreKept None units1 lanes1 board1 → IsPlaced units1 places1 →
    IsQueues units1 lanes1 board1 places1 names
room-keeps {units} {names = names} it tid units1 lanes1 board1 places1 same behind kept placed =
    subst (λ (l : List Entry). IsQueues l lanes1 board1 places1 names) (sym behind)
    (behind-keeps it tid lanes1 board1 places1 same (subst (λ (l : List Entry). AreKept None l lanes1 board1) behind kept)
    (subst (λ (l : List Entry). IsPlaced l places1) behind placed))

-- what they keep at the end
pub end-keeps : {units : List Entry} {lanes : List Lane} {board : Board} {places : ℕ × ℕ → Option ℕ} {names : ℕ × List ℕ → Option ℕ}
    → IsQueues units lanes board places names → (tid : TidOf) (p : ℕ) (qs : List ℕ) (units2 : List Entry) (after : List Lane) (board2 : Board)
    → slice_get units p ≡ Some (new_entry tid) → length units ≡ p + 1 → places (number_of tid) ≡ Some p → KeepsLanes lanes after → IsEntered p qs units units2 →
    AreKept None units2 after board2 → IsQueues units2 after board2 places names
end-keeps {places = places} {names = names} it tid p qs units2 after board2 at_p last placed keeps enters kept =
    let e = enters.entered (new_entry tid) at_p in
    subst (λ (l : List Entry). IsQueues l after board2 places names) (sym e)
    (enter-keeps it p (new_entry tid) qs after board2 at_p last refl refl placed keeps (subst (λ (l : List Entry). AreKept None l after board2) e kept))

-- what they keep where the unit could not be in its queues
pub end-fails : {units : List Entry} {lanes : List Lane} {board : Board} {places : ℕ × ℕ → Option ℕ} {names : ℕ × List ℕ → Option ℕ}
    → IsQueues units lanes board places names → (units2 : List Entry) (after : List Lane) (board2 : Board) →
    KeepsLanes lanes after → units2 ≡ units → AreKept None units2 after board2 → IsQueues units2 after board2 places names
end-fails {places = places} {names = names} it units2 after board2 keeps e kept =
    subst (λ (l : List Entry). IsQueues l after board2 places names) (sym e)
    (lanes-keep it after board2 keeps (subst (λ (l : List Entry). AreKept None l after board2) e kept))

-- what is seen at the end
pub seen-end : (tid : TidOf) (units units1 units2 : List Entry) (lanes after : List Lane) (keys : List QueueKey) (qs : List ℕ) (p : ℕ) →
    p ≡ length units
    → units1 ≡ units ++ new_entry tid ∷ [] → KeepsLanes lanes after → AreNumbersOf keys lanes qs → IsEntered p qs units1 units2 →
    seen units2 after ≡ added tid keys (seen units lanes)
seen-end tid units units1 units2 lanes after keys qs p place behind keeps numbers enters =
    let v : Entry = record (new_entry tid) { queues = qs; live = true } in
    let at_p : slice_get units1 p ≡ Some (new_entry tid) = ap (λ i. slice_get units1 i) place ∙ at-behind tid units units1 behind in
    ap (λ (l : List Entry). seen l after) (enters.entered (new_entry tid) at_p)
    ∙ ap (λ (l : List Entry). seen (slice_set l p v) after) behind
    ∙ ap (λ i. seen (slice_set (units ++ new_entry tid ∷ []) i v) after) place
    ∙ seen-enter tid units lanes after keys qs keeps numbers

pub seen-fails : (tid : TidOf) (units units1 units2 : List Entry) (lanes after : List Lane) → units1 ≡ units ++ new_entry tid ∷ [] →
    KeepsLanes lanes after → units2 ≡ units1
    → seen units2 after ≡ seen units lanes
seen-fails tid units units1 units2 lanes after behind keeps e =
    let us = units-kept lanes after (lanes-keys lanes after keeps) (filter is_live units2) in
    let stops = stops-kept lanes after keeps in
    let same : seen units2 after ≡ seen units2 lanes = λ i. record { units = us i; stops = stops i } in
    same ∙ ap (λ (l : List Entry). seen l lanes) (e ∙ behind) ∙ seen-behind tid units lanes
