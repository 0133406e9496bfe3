-- What the lists keep, and what is seen of them, where a unit is finished.
use Rattle.std.specs.Prelude.{filter, slice_get, slice_set, not, count_by}
use Rattle.std.specs.List.{filter_map, cons_option}
use Rattle.std.specs.Option.{option_map, option_map_or, option_and_then, is_none, is_some}
use Rattle.std.proofs.Common.{◌≡◌, ◌≢◌, ◌≤◌, ◌+◌, ◌-◌, ℕ, zero, suc, Bool, true, false, eqb, cond, Option, Some, None, List, [], ◌∷◌, length, map, inl, inr}
use Rattle.std.proofs.Common.{refl, sym, ap, subst, ◌∙◌, arith}
use Rattle.std.proofs.lemmas.Bool.{both_ways, false_from_ne_true, eqb-true}
use Rattle.std.proofs.lemmas.Bool.Decides.{eqb_tells}
use Rattle.std.proofs.lemmas.Option.{slice_get_within}
use Rattle.std.proofs.lemmas.List.Sums.{sum_by-cons}
use Rattle.ale_base.specs.Tid.{TidOf, is_tid}
use Rattle.unit_core.proofs.TidLemmas.{is_tid-same}
use Rattle.plain_queues.specs.declared.queue_key.QueueKey.{QueueKey}
use Rattle.plain_queues.specs.declared.queued_unit.QueuedUnit.{QueuedUnit}
use Rattle.plain_queues.specs.Queues.{QueuesOf, head_of, claim_of}
use Rattle.plain_queues.specs.Changes.{finished, is_new_head, new_heads, most_looks}
use Rattle.multi_queue.specs.declared.board.Board.{Board}
use Rattle.multi_queue.specs.declared.entry.Entry.{Entry}
use Rattle.multi_queue.specs.declared.entry.Lane.{Lane}
use Rattle.multi_queue.specs.Counted.{has, standing, is_live, HeadsAll, AreKept, KeepsLanes, cost, cost_at, cost_of, gone}
use Rattle.multi_queue.specs.Seen.{key_at, seen_unit, seen, number_of, IsQueues, AreKnown}
use Rattle.ale_base.proofs.ListLemmas.{slice_get-within}
use Rattle.multi_queue.proofs.CountedLemmas.{set-here, set-there, first-stands, standing-same, standing-gone, get-drop_one}
use Rattle.multi_queue.proofs.SeenLemmas.{Alone, alone-later, alone-at, unit_of-here}
use Rattle.multi_queue.proofs.LaneLemmas.{lanes-keys, named-kept, units-kept}
use Rattle.multi_queue.proofs.OfferLemmas.{queued-live, head-line, tid-place, known-here, known-later}

-- ---- the stops

keeps-later : (w x : Lane) (ws xs : List Lane) → KeepsLanes (w ∷ ws) (x ∷ xs) → KeepsLanes ws xs
keeps-later w x ws xs it = record { count = (let e = it.count in omega arith); keeps = λ q a b. it.keeps (suc q) a b }

-- the stops are as before
pub stops-kept : (lanes after : List Lane) → KeepsLanes lanes after
    → map (λ (lane : Lane). lane.key) (filter (λ (lane : Lane). lane.stopped) after)
    ≡ map (λ (lane : Lane). lane.key) (filter (λ (lane : Lane). lane.stopped) lanes)
stops-kept [] [] it = refl
stops-kept [] (x ∷ xs) it = absurd (let e = it.count in omega arith)
stops-kept (w ∷ ws) [] it = absurd (let e = it.count in omega arith)
stops-kept (w ∷ ws) (x ∷ xs) it =
    let here = it.keeps 0 w x refl refl in
    let rest = stops-kept ws xs (keeps-later w x ws xs it) in
    ap (λ b. map (λ (lane : Lane). lane.key) (cond b (x ∷ filter (λ (lane : Lane). lane.stopped) xs) (filter (λ (lane : Lane). lane.stopped) xs))) here.1
    ∙ elim w.stopped as (λ b. map (λ (lane : Lane). lane.key)
    (cond b (x ∷ filter (λ (lane : Lane). lane.stopped) xs) (filter (λ (lane : Lane). lane.stopped) xs))
    ≡ map (λ (lane : Lane). lane.key) (cond b (w ∷ filter (λ (lane : Lane). lane.stopped) ws) (filter (λ (lane : Lane). lane.stopped) ws))) [
      | true ↦ ap (λ (k : QueueKey). k ∷ map (λ (lane : Lane). lane.key) (filter (λ (lane : Lane). lane.stopped) xs)) here.0
          ∙ ap (λ (l : List QueueKey). w.key ∷ l) rest
      | false ↦ rest
    ]

-- ---- what is seen

-- no live unit of these has the id, so all stay
stay-all : (tid : TidOf) (lanes : List Lane) (units : List Entry) →
    ((p : ℕ) (u : Entry) → slice_get units p ≡ Some u → u.live ≡ true → is_tid u.tid tid ≡ true → ⊥)
    → filter (λ (unit : QueuedUnit). not (is_tid unit.tid tid)) (map (seen_unit lanes) (filter is_live units)) ≡ map (seen_unit lanes) (filter is_live units)
stay-all tid lanes [] nowhere = refl
stay-all tid lanes (v ∷ us) nowhere =
    let rest = stay-all tid lanes us (λ p u got. nowhere (suc p) u got) in
    elim v.live as (λ b. v.live ≡ b → filter (λ (unit : QueuedUnit). not (is_tid unit.tid tid))
    (map (seen_unit lanes) (cond b (v ∷ filter is_live us) (filter is_live us)))
    ≡ map (seen_unit lanes) (cond b (v ∷ filter is_live us) (filter is_live us))) [
      | true ↦ λ e. let other = false_from_ne_true (is_tid v.tid tid) (λ its. nowhere 0 v refl e its) in
          ap (λ b. cond (not b) (seen_unit lanes v ∷ filter (λ (unit : QueuedUnit). not (is_tid unit.tid tid)) (map (seen_unit lanes) (filter is_live us)))
          (filter (λ (unit : QueuedUnit). not (is_tid unit.tid tid)) (map (seen_unit lanes) (filter is_live us)))) other
          ∙ ap (λ l. seen_unit lanes v ∷ l) rest
      | false ↦ λ e. rest
    ] refl

-- the live unit at a place is finished, and so is the one of its id as it is seen
seen-gone : (lanes : List Lane) (n : ℕ) (units : List Entry) (p : ℕ) (u : Entry) (place : Option ℕ) → Alone u.tid n units place → slice_get units p ≡ Some u →
    u.live ≡ true
    → map (seen_unit lanes) (filter is_live (slice_set units p (gone u))) ≡ filter (λ (unit : QueuedUnit). not (is_tid unit.tid u.tid))
    (map (seen_unit lanes) (filter is_live units))
seen-gone lanes n [] p u place it got live = cc
seen-gone lanes n (w ∷ us) zero u place it got live =
    let e : w ≡ u = cc in
    let others = stay-all u.tid lanes us (λ q x g l s.
    let a = it.alone 0 w refl (ap (λ (y : Entry). y.live) e ∙ live) (ap (λ (y : Entry). is_tid y.tid u.tid) e ∙ is_tid-same u.tid) in
    let b = it.alone (suc q) x g l s in
    let c : n + 0 ≡ n + suc q = cc in omega arith) in
    sym (ap (λ (y : Entry). filter (λ (unit : QueuedUnit). not (is_tid unit.tid u.tid)) (map (seen_unit lanes) (filter is_live (y ∷ us)))) e
    ∙ ap (λ b. filter (λ (unit : QueuedUnit). not (is_tid unit.tid u.tid)) (map (seen_unit lanes) (cond b (u ∷ filter is_live us) (filter is_live us)))) live
    ∙ ap (λ b. cond (not b) (seen_unit lanes u ∷ filter (λ (unit : QueuedUnit). not (is_tid unit.tid u.tid)) (map (seen_unit lanes) (filter is_live us)))
    (filter (λ (unit : QueuedUnit). not (is_tid unit.tid u.tid)) (map (seen_unit lanes) (filter is_live us)))) (is_tid-same u.tid)
    ∙ others)
seen-gone lanes n (w ∷ us) (suc p) u place it got live =
    let rest = seen-gone lanes (n + 1) us p u place (alone-later u.tid n w us place it) got live in
    elim w.live as (λ b. w.live ≡ b → map (seen_unit lanes) (cond b (w ∷ filter is_live (slice_set us p (gone u))) (filter is_live (slice_set us p (gone u))))
    ≡ filter (λ (unit : QueuedUnit). not (is_tid unit.tid u.tid)) (map (seen_unit lanes) (cond b (w ∷ filter is_live us) (filter is_live us)))) [
      | true ↦ λ e.
          let other = false_from_ne_true (is_tid w.tid u.tid) (λ its.
          let a = it.alone 0 w refl e its in let b = it.alone (suc p) u got live (is_tid-same u.tid) in let c : n + 0 ≡ n + suc p = cc in omega arith) in
          ap (λ l. seen_unit lanes w ∷ l) rest
          ∙ sym (ap (λ b. cond (not b) (seen_unit lanes w ∷ filter (λ (unit : QueuedUnit). not (is_tid unit.tid u.tid))
          (map (seen_unit lanes) (filter is_live us)))
          (filter (λ (unit : QueuedUnit). not (is_tid unit.tid u.tid)) (map (seen_unit lanes) (filter is_live us)))) other)
      | false ↦ λ e. rest
    ] refl

-- ---- the looks of a finish

-- of each queue one look, and one at the unit that heads it from then on
looks-most : (units : List Entry) (lanes : List Lane) (test : QueueKey → Bool) (qs : List ℕ) → AreKnown qs lanes
    → ((q : ℕ) (w : Lane) → has q qs ≡ true → slice_get lanes q ≡ Some w → is_some (slice_get (standing q 0 units) 1) ≡ true → test w.key ≡ true)
    → cost units qs ≤ length (filter_map (key_at lanes) qs) + count_by test (filter_map (key_at lanes) qs)
looks-most units lanes test [] known heads = omega arith
looks-most units lanes test (q ∷ qs) known heads =
    let at = slice_get-within lanes q (known q (known-here q qs)) in
    let w : Lane = at.0 in
    let keys : List QueueKey = filter_map (key_at lanes) qs in
    let rest : cost units qs ≤ length keys + count_by test keys = looks-most units lanes test qs (λ r h. known r (known-later q r qs h))
    (λ r v h. heads r v (known-later q r qs h)) in
    let split : count_by test (w.key ∷ keys) ≡ cond (test w.key) 1 0 + count_by test keys = sum_by-cons (λ key. cond (test key) 1 0) w.key keys in
    let second : cond (is_some (slice_get (standing q 0 units) 1)) 1 0 ≤ cond (test w.key) 1 0 =
    by (is_some (slice_get (standing q 0 units) 1)) (test w.key) (λ more. heads q w (known-here q qs) at.1 more) in
    subst (λ (o : Option Lane). cost units (q ∷ qs) ≤ length (cons_option (option_map (λ (lane : Lane). lane.key) o) keys) + count_by test
    (cons_option (option_map (λ (lane : Lane). lane.key) o) keys)) (sym at.1)
    (omega (arith, rest, split, second))
  where
    by : (a b : Bool) → (a ≡ true → b ≡ true) → cond a 1 0 ≤ cond b 1 0
    by true b h = let e = h refl in rw e (omega arith)
    by false true h = omega arith
    by false false h = omega arith

module _ {units : List Entry} {lanes : List Lane} {board : Board} {places : ℕ × ℕ → Option ℕ} {names : ℕ × List ℕ → Option ℕ}
    (it : IsQueues units lanes board places names) where
  -- the unit of a claim that is held is claimed
  pub held-claimed : (tid : TidOf) (number p : ℕ) (u : Entry) → claim_of tid (seen units lanes) ≡ Some number → places (number_of tid) ≡ Some p →
      slice_get units p ≡ Some u → u.live ≡ true
      → is_none u.claim ≡ false
  held-claimed tid number p u held names_p at_p live =
      let claim : u.claim ≡ Some number = sym (ap (λ (o : Option QueuedUnit). option_and_then (λ (unit : QueuedUnit). unit.claim) o)
      (unit_of-here tid units lanes places p u it.placed names_p at_p live)) ∙ held in
      ap (λ (o : Option ℕ). is_none o) claim

  module _ (p : ℕ) (u : Entry) (at_p : slice_get units p ≡ Some u) (live : u.live ≡ true) (first : HeadsAll p units) (after : List Lane)
      (keeps : KeepsLanes lanes after) where
    -- what is seen after a finish
    pub seen-finished : seen (slice_set units p (gone u)) after ≡ finished u.tid (seen units lanes)
    seen-finished =
        let left : map (seen_unit after) (filter is_live (slice_set units p (gone u))) ≡ filter (λ (unit : QueuedUnit). not (is_tid unit.tid u.tid))
        (map (seen_unit lanes) (filter is_live units)) =
        units-kept lanes after (lanes-keys lanes after keeps) (filter is_live (slice_set units p (gone u)))
        ∙ seen-gone lanes 0 units p u (places (number_of u.tid)) (alone-at u.tid units places it.placed) at_p live in
        let stops = stops-kept lanes after keeps in
        λ i. record { units = left i; stops = stops i }

    -- a unit that is in a queue still is another one
    other-unit : (r q : ℕ) (v : Entry) → slice_get (slice_set units p (gone u)) r ≡ Some v → (has q v.queues ≡ true) → (p ≢ r) × (slice_get units r ≡ Some v)
    other-unit r q v at_r h =
        elim (eqb_tells p r) [
          | inl e ↦ absurd (let same : gone u ≡ v = cc (set-here units p u (gone u) at_p, at_r, e.1) in let none : has q v.queues
              ≡ false = ap (λ (x : Entry). has q x.queues) (sym same) in both_ways (has q v.queues) none h)
          | inr e ↦ (e.1, sym (set-there units p r (gone u) e.1) ∙ at_r)
        ]

    -- a claimed unit that stays heads its queues still
    heads-stay : (r : ℕ) (v : Entry) → slice_get (slice_set units p (gone u)) r ≡ Some v → HeadsAll r units → HeadsAll r (slice_set units p (gone u))
    heads-stay r v at_r all = record {
      first = λ x q at_x h.
          let old = other-unit r q x at_x h in
          let head = all.first x q old.1 h in
          let apart : has q u.queues ≡ false = false_from_ne_true (has q u.queues)
          (λ its. let mine = first.first u q at_p its in let e : p ≡ r = cc in old.0 e) in
          ap (λ l. slice_get l 0) (standing-same q 0 units p u (gone u) at_p (sym apart)) ∙ head;
    }

    -- what the lists keep
    pub finish-keeps : (board2 : Board) → AreKept None (slice_set units p (gone u)) after board2 →
        IsQueues (slice_set units p (gone u)) after board2 places names
    finish-keeps board2 kept = record {
      kept = kept;
      placed = record {
        there = λ number r h.
            let old = it.placed.there number r h in
            elim (eqb_tells p r) [
              | inl e ↦
                  let same : u ≡ old.0 = cc (at_p, old.1, e.1) in (
                    gone u,
                    subst (λ i. slice_get (slice_set units p (gone u)) i ≡ Some (gone u)) e.1 (set-here units p u (gone u) at_p),
                    ap
                        (λ (y : Entry). number_of y.tid) same ∙ old.2,
                  )
              | inr e ↦ (old.0, set-there units p r (gone u) e.1 ∙ old.1, old.2)
            ];
        placed = λ r x a l.
            elim (eqb_tells p r) [
              | inl e ↦ absurd (let same : gone u ≡ x = cc (set-here units p u (gone u) at_p, a, e.1) in let dead : x.live
                  ≡ false = ap (λ (y : Entry). y.live) (sym same) in both_ways x.live dead l)
              | inr e ↦ it.placed.placed r x (sym (set-there units p r (gone u) e.1) ∙ a) l
            ];
      };
      named = named-kept lanes after names (lanes-keys lanes after keeps) it.named;
      gone = λ r x a l.
          elim (eqb_tells p r) [
            | inl e ↦ let same : gone u ≡ x = cc (set-here units p u (gone u) at_p, a, e.1) in ap (λ (y : Entry). y.queues) (sym same)
            | inr e ↦ it.gone r x (sym (set-there units p r (gone u) e.1) ∙ a) l
          ];
      claims = λ r x a f.
          elim (eqb_tells p r) [
            | inl e ↦ absurd (let same : gone u ≡ x = cc (set-here units p u (gone u) at_p, a, e.1) in let none : is_none x.claim
                ≡ true = ap (λ (y : Entry). is_none y.claim) (sym same) in both_ways (is_none x.claim) f none)
            | inr e ↦ let old = it.claims r x (sym (set-there units p r (gone u) e.1) ∙ a) f in (old.0, heads-stay r x a old.1)
          ];
    }

    module _ (board2 : Board) (now : IsQueues (slice_set units p (gone u)) after board2 places names) where
      -- a queue of the unit in which another one is behind it has a new head
      new-head : (q : ℕ) (w : Lane) → has q u.queues ≡ true → slice_get lanes q ≡ Some w → is_some (slice_get (standing q 0 units) 1) ≡ true
          → is_new_head (head_of w.key (seen units lanes)) (head_of w.key (finished u.tid (seen units lanes))) ≡ true
      new-head q w h at_q more =
          let x = slice_get-within after q (omega (arith, slice_get_within lanes q w at_q, keeps.count)) in
          let key : x.0.key ≡ w.key = (keeps.keeps q w x.0 at_q x.1).0 in
          let first_q = first.first u q at_p h in
          let before : head_of w.key (seen units lanes) ≡ Some (seen_unit lanes u) =
          head-line it q w at_q ∙ ap (λ o. option_map (seen_unit lanes) (option_and_then (λ i. slice_get units i) o))
          (ap (λ l. slice_get l 0) (it.kept.counted.lines q w at_q) ∙ first_q)
          ∙ ap (λ (o : Option Entry). option_map (seen_unit lanes) o) at_p in
          let shorter : slice_get (standing q 0 (slice_set units p (gone u))) 0 ≡ slice_get (standing q 0 units) 1 =
          ap (λ l. slice_get l 0) (standing-gone q 0 units p u (gone u) at_p refl (first_q ∙ ap (λ i. Some i) (zero-in p)))
          ∙ get-drop_one (standing q 0 units) in
          let later : head_of w.key (finished u.tid (seen units lanes))
          ≡ option_map (seen_unit after) (option_and_then (λ i. slice_get (slice_set units p (gone u)) i) (slice_get (standing q 0 units) 1)) =
          ap (λ (queues : QueuesOf). head_of w.key queues) (sym seen-finished)
          ∙ ap (λ (k : QueueKey). head_of k (seen (slice_set units p (gone u)) after)) (sym key)
          ∙ head-line now q x.0 x.1 ∙ ap (λ o. option_map (seen_unit after) (option_and_then (λ i. slice_get (slice_set units p (gone u)) i) o))
          (ap (λ l. slice_get l 0) (now.kept.counted.lines q x.0 x.1) ∙ shorter) in
          ap (λ (o : Option QueuedUnit). is_new_head o (head_of w.key (finished u.tid (seen units lanes)))) before
          ∙ ap (λ (o : Option QueuedUnit). is_new_head (Some (seen_unit lanes u)) o) later
          ∙ by (slice_get (standing q 0 units) 1) more shorter
        where
          zero-in : (n : ℕ) → n ≡ 0 + n
          zero-in n = omega arith

          by : (o : Option ℕ) → is_some o ≡ true → slice_get (standing q 0 (slice_set units p (gone u))) 0 ≡ o
              → is_new_head (Some (seen_unit lanes u)) (option_map (seen_unit after) (option_and_then (λ i. slice_get (slice_set units p (gone u)) i) o)) ≡ true
          by None some shorter = absurd (cc)
          by (Some r) some shorter =
              let there = first-stands q 0 (slice_set units p (gone u)) r shorter in
              let v : Entry = there.0 in
              let z : r - 0 ≡ r = omega arith in
              let at_r : slice_get (slice_set units p (gone u)) r ≡ Some v = ap (λ i. slice_get (slice_set units p (gone u)) i) (sym z) ∙ there.1.1 in
              let old = other-unit r q v at_r there.1.2 in
              let other : is_tid u.tid v.tid ≡ false = tid-place it r p v u old.1 at_p (queued-live it r q v old.1 there.1.2) live
              ∙ false_from_ne_true (eqb r p) (λ e. old.0 (sym (eqb-true r p e))) in
              ap (λ (o : Option Entry). is_new_head (Some (seen_unit lanes u)) (option_map (seen_unit after) o)) at_r
              ∙ ap (λ b. not b) other

      -- a finish looks at no more entries than it may
      pub finish-looks : cost_at p units ≤ most_looks u.tid (seen units lanes)
      finish-looks =
          let known : AreKnown u.queues lanes = λ q h. it.kept.counted.known p u q at_p h in
          let test : QueueKey → Bool = λ key. is_new_head (head_of key (seen units lanes)) (head_of key (finished u.tid (seen units lanes))) in
          let most = looks-most units lanes test u.queues known (λ q w h at_q more. new-head q w h at_q more) in
          let cost_is : cost_at p units ≡ cost units u.queues = ap (λ (o : Option Entry). cost_of units o) at_p in
          let found = unit_of-here u.tid units lanes places p u it.placed (it.placed.placed p u at_p live) at_p live in
          subst (λ (o : Option QueuedUnit). cost_at p units ≤ option_map_or
          (λ (unit : QueuedUnit). length unit.keys + new_heads (seen units lanes) (finished u.tid (seen units lanes)) unit.keys) o 0) (sym found)
          (subst (λ (n : ℕ). n ≤ length (filter_map (key_at lanes) u.queues) + count_by test (filter_map (key_at lanes) u.queues)) (sym cost_is) most)
