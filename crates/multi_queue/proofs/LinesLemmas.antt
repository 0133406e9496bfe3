-- The lines of the queues, as the plain definitions say them and as the lists do.
use Rattle.std.specs.BTreeMap.{BTreeMap, get, values, IsOrdered}
use Rattle.std.specs.Cmp.{IsTotalOrder, both_ways}
use Rattle.std.specs.Cmp.Lexicographic.{slice_cmp}
use Rattle.std.specs.List.{filter_map, cons_option, AllByRecursion}
use Rattle.std.specs.List.Sorted.{IsStrictlySortedBy}
use Rattle.std.specs.Map.{values_of}
use Rattle.std.specs.Map.{keys_of as names_in}
use Rattle.std.specs.Option.{option_map, option_and_then}
use Rattle.std.specs.Ordering.{ordering_then, nat_cmp}
use Rattle.std.specs.Prelude.{Contains, filter, slice_get, replicate, is_some}
use Rattle.std.specs.declared.cmp.Ordering.TheVariants.{Less, Greater}
use Rattle.std.proofs.Common.{◌≡◌, ◌<◌, ◌+◌, ◌-◌, ℕ, zero, suc, Bool, true, false, cond, Option, Some, None, List, [], ◌∷◌, ◌++◌, length, map}
use Rattle.std.proofs.Common.{◌⊎◌, inl, inr, refl, sym, ap, subst, ◌∙◌, arith}
use Rattle.std.proofs.lemmas.Bool.{cases_Bool}
use Rattle.std.proofs.lemmas.Bool.Decides.{nat_tests}
use Rattle.std.proofs.lemmas.Cmp.{tied_itself, nat_cmp_total, nat_list_cmp_total, on_total, then_total}
use Rattle.std.proofs.lemmas.List.Elements.{recursion_from_All, All-weaker, All-contains, All-contains_itself}
use Rattle.std.proofs.lemmas.Map.Entries.{place_from_lookup}
use Rattle.std.proofs.lemmas.Map.Views.{All-found}
use Rattle.std.proofs.lemmas.Option.{slice_get_within}
use Rattle.ale_base.specs.QueueName.{IsNameByte, IsQueueName}
use Rattle.ale_base.proofs.ListLemmas.{Contains-at}
use Rattle.ale_base.proofs.MemberLemmas.{Contains-map, Contains-map_back, list_any-found, filter_map-Contains, filter_map-Contains_back}
use Rattle.ale_base.proofs.OptionLemmas.{none_or_some, option_map-Some}
use Rattle.plain_queues.specs.declared.queue_count.QueueCount.{QueueCount}
use Rattle.plain_queues.specs.declared.queue_key.QueueKey.{QueueKey}
use Rattle.plain_queues.specs.declared.queue_status.QueueStatus.{QueueStatus}
use Rattle.plain_queues.specs.declared.queued_unit.QueuedUnit.{QueuedUnit}
use Rattle.plain_queues.specs.Keys.{is_key, has_key}
use Rattle.plain_queues.specs.Queues.{in_queue}
use Rattle.plain_queues.specs.Status.{status_of, status_by_head}
use Rattle.plain_queues.specs.Lines.{key_cmp, keys_of, IsLineOf, AreLinesOf}
use Rattle.plain_queues.proofs.OfferedLemmas.{is_key-true, has_key-Contains}
use Rattle.multi_queue.specs.declared.board.Board.{Board}
use Rattle.multi_queue.specs.declared.entry.Entry.{Entry}
use Rattle.multi_queue.specs.declared.entry.Lane.{Lane}
use Rattle.multi_queue.specs.Counted.{has, is_live, standing}
use Rattle.multi_queue.specs.Seen.{seen, seen_unit, name_of, names_cmp, status_of_lane, IsNamed, IsQueues}
use Rattle.multi_queue.specs.Listed.{line_with, line_at}
use Rattle.multi_queue.proofs.SeenLemmas.{has-key_at}
use Rattle.multi_queue.proofs.OfferLemmas.{queued-live}
use Rattle.multi_queue.proofs.StatusLemmas.{no-head, status-lane}

-- ---- the order of names

less : (x y : ℕ) → x < y → nat_cmp x y ≡ Less
less x y below = grind (arith, nat_tests)

more : (x y : ℕ) → y < x → nat_cmp x y ≡ Greater
more x y above = grind (arith, nat_tests)

-- texts of bytes above the blank compare as they do with blanks behind them, up to one width
cmp-blanks : (a b : List ℕ) (m n : ℕ) → AllByRecursion IsNameByte a → AllByRecursion IsNameByte b → length a + m ≡ length b + n
    → slice_cmp nat_cmp (a ++ replicate m 32) (b ++ replicate n 32) ≡ slice_cmp nat_cmp a b
cmp-blanks [] [] m n bytes_a bytes_b width =
    let same : m ≡ n = omega arith in
    ap (λ i. slice_cmp nat_cmp (replicate i 32) (replicate n 32)) same ∙ tied_itself nat_list_cmp_total (replicate n 32)
cmp-blanks [] (y ∷ ys) m n bytes_a bytes_b width =
    let blank : m ≡ suc (length ys + n) = omega arith in
    let first : nat_cmp 32 y ≡ Less = less 32 y (omega (arith, bytes_b.0.0)) in
    ap (λ i. slice_cmp nat_cmp (replicate i 32) (y ∷ ys ++ replicate n 32)) blank
    ∙ ap (λ o. ordering_then o (slice_cmp nat_cmp (replicate (length ys + n) 32) (ys ++ replicate n 32))) first
cmp-blanks (x ∷ xs) [] m n bytes_a bytes_b width =
    let blank : n ≡ suc (length xs + m) = omega arith in
    let first : nat_cmp x 32 ≡ Greater = more x 32 (omega (arith, bytes_a.0.0)) in
    ap (λ i. slice_cmp nat_cmp (x ∷ xs ++ replicate m 32) (replicate i 32)) blank
    ∙ ap (λ o. ordering_then o (slice_cmp nat_cmp (xs ++ replicate m 32) (replicate (length xs + m) 32))) first
cmp-blanks (x ∷ xs) (y ∷ ys) m n bytes_a bytes_b width =
    let width_behind : length xs + m ≡ length ys + n = omega arith in
    ap (ordering_then (nat_cmp x y)) (cmp-blanks xs ys m n bytes_a.1 bytes_b.1 width_behind)

-- the table of names has its queues in the order of their keys
key-order : (a b : QueueKey) → IsQueueName a.name → IsQueueName b.name → names_cmp (name_of a) (name_of b) ≡ key_cmp a b
key-order a b name_a name_b =
    let width : length a.name + (24 - length a.name) ≡ length b.name + (24 - length b.name) = omega (arith, name_a.most, name_b.most) in
    ap (ordering_then (nat_cmp a.partner b.partner)) (cmp-blanks a.name b.name (24 - length a.name) (24 - length b.name)
    (recursion_from_All IsNameByte a.name name_a.graphic) (recursion_from_All IsNameByte b.name name_b.graphic) width)

names-total : IsTotalOrder names_cmp
names-total = then_total (on_total (λ (n : ℕ × List ℕ). n.0) nat_cmp_total) (on_total (λ (n : ℕ × List ℕ). n.1) nat_list_cmp_total)

-- an entry of the table of names gives a line of a proper name, which is the entry's
abbrev IsNamedBy : (ℕ → Option QueueCount) → (ℕ × List ℕ) × ℕ → Type 0
IsNamedBy gives e = (line : QueueCount) → gives e.1 ≡ Some line → (name_of line.key ≡ e.0) × IsQueueName line.key.name

below : (gives : ℕ → Option QueueCount) (key : QueueKey) (es : List ((ℕ × List ℕ) × ℕ)) → IsQueueName key.name → AllByRecursion (IsNamedBy gives) es
    → AllByRecursion (λ name. names_cmp (name_of key) name ≡ Less) (names_in es)
    → AllByRecursion (λ other. key_cmp key other ≡ Less) (keys_of (filter_map gives (values_of es)))
below gives key [] name each ascend = tt
below gives key (e ∷ es) name each ascend =
    let rest = below gives key es name each.1 ascend.1 in
    elim (gives e.1) as (λ o. gives e.1 ≡ o → AllByRecursion (λ other. key_cmp key other ≡ Less) (keys_of (cons_option o (filter_map gives (values_of es))))) [
      | None ↦ λ is. rest
      | Some line ↦ λ is. let its = each.0 line is in (sym (key-order key line.key name its.1) ∙ ap (names_cmp (name_of key)) its.0 ∙ ascend.0, rest)
    ] refl

-- what the entries of the table give in turn ascends
ascending : (gives : ℕ → Option QueueCount) (es : List ((ℕ × List ℕ) × ℕ)) → AllByRecursion (IsNamedBy gives) es → IsStrictlySortedBy names_cmp (names_in es)
    → IsStrictlySortedBy key_cmp (keys_of (filter_map gives (values_of es)))
unfolding IsStrictlySortedBy
ascending gives [] each ascend = tt
ascending gives (e ∷ es) each ascend =
    let rest = ascending gives es each.1 ascend.1 in
    elim (gives e.1) as (λ o. gives e.1 ≡ o → IsStrictlySortedBy key_cmp (keys_of (cons_option o (filter_map gives (values_of es))))) [
      | None ↦ λ is. rest
      | Some line ↦ λ is.
          let its = each.0 line is in
          let head = subst (λ name. AllByRecursion (λ other. names_cmp name other ≡ Less) (names_in es)) (sym its.0) ascend.0 in
          (below gives line.key es its.1 each.1 head, rest)
    ] refl

-- ---- the units of a queue

-- as many live units pass a test as stand in a queue, where it is the test of being there
count-standing : (test : QueuedUnit → Bool) (see : Entry → QueuedUnit) (q n : ℕ) (units : List Entry)
    → ((p : ℕ) (u : Entry) → slice_get units p ≡ Some u → test (see u) ≡ has q u.queues)
    → ((p : ℕ) (u : Entry) → slice_get units p ≡ Some u → has q u.queues ≡ true → u.live ≡ true)
    → length (filter test (map see (filter is_live units))) ≡ length (standing q n units)
count-standing test see q n [] agree live = refl
count-standing test see q n (u ∷ us) agree live =
    let rest = count-standing test see q (n + 1) us (λ p v at. agree (suc p) v at) (λ p v at. live (suc p) v at) in
    let same = agree 0 u refl in
    elim (cases_Bool (has q u.queues)) [
      | inl stands ↦
          ap (λ b. length (filter test (map see (cond b (u ∷ filter is_live us) (filter is_live us))))) (live 0 u refl stands)
          ∙ ap (λ b. length (cond b (see u ∷ filter test (map see (filter is_live us))) (filter test (map see (filter is_live us))))) (same ∙ stands)
          ∙ ap suc rest
          ∙ ap (λ b. length (cond b (n ∷ standing q (n + 1) us) (standing q (n + 1) us))) (sym stands)
      | inr elsewhere ↦
          elim u.live as (λ b. length (filter test (map see (cond b (u ∷ filter is_live us) (filter is_live us))))
          ≡ length (filter test (map see (filter is_live us)))) [
            | true ↦
                ap (λ b. length (cond b (see u ∷ filter test (map see (filter is_live us))) (filter test (map see (filter is_live us)))))
                (same ∙ elsewhere)
            | false ↦ refl
          ]
          ∙ rest
          ∙ ap (λ b. length (cond b (n ∷ standing q (n + 1) us) (standing q (n + 1) us))) (sym elsewhere)
    ]

-- ---- queues by their keys

none-cons : (key : QueueKey) (w : Lane) (ws : List Lane) → is_key w.key key ≡ false
    → ((q : ℕ) (v : Lane) → slice_get ws q ≡ Some v → is_key v.key key ≡ false) → (q : ℕ) (v : Lane) → slice_get (w ∷ ws) q ≡ Some v → is_key v.key key ≡ false
none-cons key w ws other none zero v at = let same : v ≡ w = cc in ap (λ (l : Lane). is_key l.key key) same ∙ other
none-cons key w ws other none (suc q) v at = none q v at

-- a queue of a key is there, or none is
lane-or-none : (key : QueueKey) (lanes : List Lane) → ((q : ℕ) × (w : Lane) × (slice_get lanes q ≡ Some w) × (is_key w.key key ≡ true))
    ⊎ ((q : ℕ) (w : Lane) → slice_get lanes q ≡ Some w → is_key w.key key ≡ false)
lane-or-none key [] = inr (λ q w at. absurd (cc))
lane-or-none key (w ∷ ws) =
    elim (cases_Bool (is_key w.key key)) [
      | inl same ↦ inl (0, w, refl, same)
      | inr other ↦ elim (lane-or-none key ws) [
        | inl there ↦ inl (suc there.0, there.1, there.2, there.3)
        | inr none ↦ inr (none-cons key w ws other none)
      ]
    ]

-- ---- the lines

-- each number in the table of names is that of a queue
pub known-values : (lanes : List Lane) (m : BTreeMap (ℕ × List ℕ) ℕ) → IsNamed lanes (get names_cmp m) → IsOrdered names_cmp m
    → AllByRecursion (λ q. q < length lanes) (values m)
known-values lanes m named ordered =
    recursion_from_All (λ q. q < length lanes) (values m) (All-weaker (Contains (values m)) (λ q. q < length lanes) (λ q has.
    let back = Contains-map_back (λ (e : (ℕ × List ℕ) × ℕ). e.1) m.entries q has in
    let e = back.0 in
    let found = All-contains (λ (e : (ℕ × List ℕ) × ℕ). get names_cmp m e.0 ≡ Some e.1) m.entries e (All-found names-total m ordered) back.1 in
    let there = named.known e.0 e.1 found in
    omega (arith, slice_get_within lanes e.1 there.0 there.1, back.2)) (values m) (All-contains_itself (values m)))

module _ {units : List Entry} {lanes : List Lane} {board : Board} {places : ℕ × ℕ → Option ℕ} (m : BTreeMap (ℕ × List ℕ) ℕ)
    (it : IsQueues units lanes board places (get names_cmp m)) where
  -- a queue holds as many units as its line has places
  in_queue-line : (q : ℕ) (w : Lane) → slice_get lanes q ≡ Some w → length (in_queue w.key (seen units lanes)) ≡ length w.line
  in_queue-line q w at_q =
      count-standing (λ (unit : QueuedUnit). has_key w.key unit.keys) (seen_unit lanes) q 0 units
      (λ p u at_p. has-key_at lanes (get names_cmp m) q w u.queues it.named at_q (λ r h. it.kept.counted.known p u r at_p h))
      (λ p u at_p h. queued-live it p q u at_p h)
      ∙ ap (λ (l : List ℕ). length l) (sym (it.kept.counted.lines q w at_q))

  -- the line of the queue of a number has its key, and tells of it
  line-is : (q : ℕ) (line : QueueCount) → line_at units lanes board.heads q ≡ Some line
      → (w : Lane) × (slice_get lanes q ≡ Some w) × (line.key ≡ w.key) × IsLineOf (seen units lanes) line
  line-is q line is = by (slice_get lanes q) refl is
    where
      by : (o : Option Lane) → slice_get lanes q ≡ o
          → option_and_then (λ (w : Lane). option_map (line_with w) (status_of_lane units lanes board.heads (Some w))) o ≡ Some line
          → (w : Lane) × (slice_get lanes q ≡ Some w) × (line.key ≡ w.key) × IsLineOf (seen units lanes) line
      by None at_q is = absurd (cc)
      by (Some w) at_q is =
          let found = option_map-Some (line_with w) (status_of_lane units lanes board.heads (Some w)) line is in (
            w,
            at_q,
            ap (λ (l : QueueCount). l.key) (sym found.2),
            subst (λ (l : QueueCount). IsLineOf (seen units lanes) l) found.2 (record {
              count = sym (in_queue-line q w at_q);
              status = status-lane it q w at_q ∙ found.1;
            }),
          )

  -- a queue that has a status has a line
  line-there : (q : ℕ) (w : Lane) (status : QueueStatus) → slice_get lanes q ≡ Some w → status_of w.key (seen units lanes) ≡ Some status
      → line_at units lanes board.heads q ≡ Some (line_with w status)
  line-there q w status at_q its =
      ap (option_and_then (λ (w : Lane). option_map (line_with w) (status_of_lane units lanes board.heads (Some w)))) at_q
      ∙ ap (option_map (line_with w)) (sym (status-lane it q w at_q) ∙ its)

  -- each number of a queue is in the table of names
  number-there : (q : ℕ) (w : Lane) → slice_get lanes q ≡ Some w → Contains (values m) q
  number-there q w at_q =
      let place = place_from_lookup _ m.entries q (it.named.named q w at_q) in
      Contains-map (λ (e : (ℕ × List ℕ) × ℕ). e.1) m.entries (place.1, q) (Contains-at m.entries place.0 (place.1, q) place.2)

  -- a key that a line has is that of a queue that has a status
  listed-has : (key : QueueKey) → has_key key (keys_of (filter_map (line_at units lanes board.heads) (values m))) ≡ true
      → is_some (status_of key (seen units lanes)) ≡ true
  listed-has key lists =
      let found = list_any-found (λ (other : QueueKey). is_key other key) (keys_of (filter_map (line_at units lanes board.heads) (values m))) lists in
      let line = Contains-map_back (λ (l : QueueCount). l.key) (filter_map (line_at units lanes board.heads) (values m)) found.0 found.1 in
      let number = filter_map-Contains_back (line_at units lanes board.heads) (values m) line.0 line.1 in
      let its = line-is number.0 line.0 number.2 in
      let key_is : line.0.key ≡ key = line.2 ∙ is_key-true found.0 key found.2 in
      ap (λ (k : QueueKey). is_some (status_of k (seen units lanes))) (sym key_is) ∙ ap is_some its.3.status

  -- a queue that has a status is listed
  has-listed : (key : QueueKey) → is_some (status_of key (seen units lanes)) ≡ true
      → has_key key (keys_of (filter_map (line_at units lanes board.heads) (values m))) ≡ true
  has-listed key some =
      elim (lane-or-none key lanes) [
        | inr none ↦
            let empty : status_of key (seen units lanes) ≡ None = ap (option_map (status_by_head key (seen units lanes))) (no-head units lanes key none) in
            let no : is_some {T = QueueStatus} None ≡ true = ap is_some (sym empty) ∙ some in
            absurd (cc)
        | inl (q, w, at_q, same) ↦
            elim (none_or_some (status_of key (seen units lanes))) [
              | inl empty ↦ let no : is_some {T = QueueStatus} None ≡ true = ap is_some (sym empty) ∙ some in absurd (cc)
              | inr (status, its) ↦
                  let key_is : w.key ≡ key = is_key-true w.key key same in
                  let line = line-there q w status at_q (ap (λ (k : QueueKey). status_of k (seen units lanes)) key_is ∙ its) in
                  let listed = filter_map-Contains (line_at units lanes board.heads) (values m) q (line_with w status) (number-there q w at_q) line in
                  has_key-Contains key (keys_of (filter_map (line_at units lanes board.heads) (values m)))
                  (subst (λ k. Contains (keys_of (filter_map (line_at units lanes board.heads) (values m))) k) key_is
                  (Contains-map (λ (l : QueueCount). l.key) (filter_map (line_at units lanes board.heads) (values m)) (line_with w status) listed))
            ]
      ]

  named-by : IsOrdered names_cmp m → AllByRecursion (IsNamedBy (line_at units lanes board.heads)) m.entries
  named-by ordered =
      recursion_from_All (IsNamedBy (line_at units lanes board.heads)) m.entries
      (All-weaker (λ (e : (ℕ × List ℕ) × ℕ). get names_cmp m e.0 ≡ Some e.1) (IsNamedBy (line_at units lanes board.heads)) (λ e found line is.
      let there = it.named.known e.0 e.1 found in
      let its = line-is e.1 line is in
      let same : its.0 ≡ there.0 = cc (its.1, there.1) in (
        ap name_of its.2 ∙ ap (λ (w : Lane). name_of w.key) same ∙ there.2,
        subst (λ (k : QueueKey). IsQueueName k.name) (sym its.2) (it.named.proper e.1 its.0 its.1),
      )) m.entries (All-found names-total m ordered))

  -- what the queues give in the order of the table of names are their lines
  pub lines-are : IsOrdered names_cmp m → AreLinesOf (seen units lanes) (filter_map (line_at units lanes board.heads) (values m))
  lines-are ordered = record {
    ascending = ascending (line_at units lanes board.heads) m.entries (named-by ordered) ordered;
    listed = λ key. both_ways (has_key key (keys_of (filter_map (line_at units lanes board.heads) (values m)))) (is_some (status_of key (seen units lanes)))
        (listed-has key) (has-listed key);
    each = All-weaker (Contains (filter_map (line_at units lanes board.heads) (values m))) (IsLineOf (seen units lanes)) (λ line has.
        let number = filter_map-Contains_back (line_at units lanes board.heads) (values m) line has in
        (line-is number.0 line number.2).3) (filter_map (line_at units lanes board.heads) (values m))
        (All-contains_itself (filter_map (line_at units lanes board.heads) (values m)));
  }
