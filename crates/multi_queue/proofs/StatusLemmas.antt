-- The status of a queue, as the plain definitions say it and as the lists do.
use Rattle.std.specs.Prelude.{filter, slice_get, not, ◌&&◌}
use Rattle.std.specs.List.{filter_map, list_any, list_all, cons_option}
use Rattle.std.specs.Option.{option_map, option_map_or, option_or, option_and_then, is_some}
use Rattle.std.proofs.Common.{◌≡◌, ◌-◌, ℕ, Bool, true, false, ◌||◌, eqb, cond, Option, Some, None, List, [], ◌∷◌, length, refl, sym, ap, ◌∙◌, arith}
use Rattle.std.proofs.lemmas.Bool.{or_parts, false_from_ne_true}
use Rattle.std.proofs.lemmas.Option.{slice_get_within}
use Rattle.ale_base.specs.Blanks.{trimmed}
use Rattle.ale_base.specs.QueueName.{IsQueueName}
use Rattle.ale_base.proofs.QueueNameLemmas.{name-back}
use Rattle.plain_queues.specs.declared.queue_key.QueueKey.{QueueKey}
use Rattle.plain_queues.specs.declared.queued_unit.QueuedUnit.{QueuedUnit}
use Rattle.plain_queues.specs.declared.queue_status.QueueStatus.TheVariants.{Stop, Running, Waitstop, Waiting, Ready}
use Rattle.plain_queues.specs.Keys.{is_key, has_key}
use Rattle.plain_queues.specs.Queues.{head_of, is_stopped}
use Rattle.plain_queues.specs.Offered.{heads, lets_go}
use Rattle.plain_queues.specs.Status.{status_of, status_by_head, status_of_free, status_of_mark}
use Rattle.plain_queues.proofs.OfferedLemmas.{is_key-true}
use Rattle.multi_queue.specs.declared.board.Board.{Board}
use Rattle.multi_queue.specs.declared.entry.Entry.{Entry}
use Rattle.multi_queue.specs.declared.entry.Lane.{Lane}
use Rattle.multi_queue.specs.Counted.{is_live}
use Rattle.multi_queue.specs.Seen.{key_at, seen_unit, seen, name_of, IsNamed, IsQueues, AreKnown, first_stopped_of, stopped_reason, status_by_count}
use Rattle.multi_queue.specs.Seen.{status_of_head, status_by_place, status_of_lane}
use Rattle.ale_base.proofs.ListLemmas.{slice_get-within}
use Rattle.multi_queue.proofs.CountedLemmas.{first-stands}
use Rattle.multi_queue.proofs.SeenLemmas.{find-map}
use Rattle.multi_queue.proofs.OfferLemmas.{stopped-is, head-line, lets-is, queued-live, known-here, known-later, all-count, find-none}

-- ---- keys

-- keys that are looked up alike are equal
key-by_name : (a b : QueueKey) → name_of a ≡ name_of b → IsQueueName a.name → IsQueueName b.name → a ≡ b
key-by_name a b same proper_a proper_b =
    let names : a.name ≡ b.name = sym (name-back a.name proper_a) ∙ ap (λ (n : ℕ × List ℕ). trimmed n.1) same ∙ name-back b.name proper_b in
    λ i. record { partner = (same i).0; name = names i }

-- the queue that the table names for a key has this key
pub lane-there : (lanes : List Lane) (names : ℕ × List ℕ → Option ℕ) (key : QueueKey) (q : ℕ) → IsNamed lanes names → IsQueueName key.name
    → names (name_of key) ≡ Some q → (w : Lane) × (slice_get lanes q ≡ Some w) × (w.key ≡ key)
lane-there lanes names key q it proper named =
    let there = it.known (name_of key) q named in
    (there.0, there.1, key-by_name there.0.key key there.2 (it.proper q there.0 there.1) proper)

-- where the table names no queue for a key, none has it
pub no-lane : (lanes : List Lane) (names : ℕ × List ℕ → Option ℕ) (key : QueueKey) → IsNamed lanes names → names (name_of key) ≡ None
    → (q : ℕ) (w : Lane) → slice_get lanes q ≡ Some w → is_key w.key key ≡ false
no-lane lanes names key it none q w at_q = false_from_ne_true (is_key w.key key) (λ same.
    let found : names (name_of key) ≡ Some q = ap (λ (k : QueueKey). names (name_of k)) (sym (is_key-true w.key key same)) ∙ it.named q w at_q in
    cc)

no-key : (key : QueueKey) (lanes : List Lane) (qs : List ℕ) → ((q : ℕ) (w : Lane) → slice_get lanes q ≡ Some w → is_key w.key key ≡ false)
    → has_key key (filter_map (key_at lanes) qs) ≡ false
no-key key lanes [] none = refl
no-key key lanes (q ∷ qs) none =
    let rest = no-key key lanes qs none in
    let by : (o : Option Lane) → slice_get lanes q ≡ o → has_key key (cons_option (option_map (λ (lane : Lane). lane.key) o) (filter_map (key_at lanes) qs))
    ≡ false =
    λ o. elim o as (λ o. slice_get lanes q ≡ o → has_key key (cons_option (option_map (λ (lane : Lane). lane.key) o) (filter_map (key_at lanes) qs)) ≡ false) [
      | None ↦ λ e. rest
      | Some w ↦ λ e. ap (λ b. b || has_key key (filter_map (key_at lanes) qs)) (none q w e) ∙ rest
    ] in
    by (slice_get lanes q) refl

-- a queue that no lane is of has no head
pub no-head : (units : List Entry) (lanes : List Lane) (key : QueueKey) → ((q : ℕ) (w : Lane) → slice_get lanes q ≡ Some w → is_key w.key key ≡ false)
    → head_of key (seen units lanes) ≡ None
no-head units lanes key none =
    find-map (λ (u : QueuedUnit). has_key key u.keys) (seen_unit lanes) (filter is_live units)
    ∙ ap (option_map (seen_unit lanes)) (find-none (λ (u : Entry). has_key key (filter_map (key_at lanes) u.queues)) units
    (λ p u at_p live. no-key key lanes u.queues none))

-- ---- statuses

-- where no queue is stopped, a unit heads all that let it go
free-heads : (head stop : QueueKey → Bool) (keys : List QueueKey) → list_any stop keys ≡ false →
    list_all head keys ≡ list_all (λ key. head key && not (stop key)) keys
free-heads head stop [] none = refl
free-heads head stop (key ∷ keys) none =
    let parts = or_parts (stop key) (list_any stop keys) none in
    ap (λ b. head key && b) (free-heads head stop keys parts.1)
    ∙ ap (λ b. b && list_all (λ k. head k && not (stop k)) keys) (sym (and_true (head key)) ∙ ap (λ b. head key && not b) (sym parts.0))
  where
    and_true : (b : Bool) → (b && true) ≡ b
    and_true true = refl
    and_true false = refl

module _ {units : List Entry} {lanes : List Lane} {board : Board} {places : ℕ × ℕ → Option ℕ} {names : ℕ × List ℕ → Option ℕ}
    (it : IsQueues units lanes board places names) where
  any-stopped : (qs : List ℕ) → AreKnown qs lanes → list_any (λ key. is_stopped key (seen units lanes)) (filter_map (key_at lanes) qs)
      ≡ is_some (first_stopped_of lanes qs)
  any-stopped [] known = refl
  any-stopped (q ∷ qs) known =
      let at = slice_get-within lanes q (known q (known-here q qs)) in
      let w : Lane = at.0 in
      let rest = any-stopped qs (λ r h. known r (known-later q r qs h)) in
      let by : (b : Bool) → w.stopped ≡ b → (b || list_any (λ key. is_stopped key (seen units lanes)) (filter_map (key_at lanes) qs))
      ≡ is_some (option_or (stopped_reason (Some (record w { stopped = b }))) (first_stopped_of lanes qs)) =
      λ b. elim b as (λ b. w.stopped ≡ b → (b || list_any (λ key. is_stopped key (seen units lanes)) (filter_map (key_at lanes) qs))
      ≡ is_some (option_or (stopped_reason (Some (record w { stopped = b }))) (first_stopped_of lanes qs)))
      [ true ↦ λ e. refl | false ↦ λ e. rest ] in
      ap (λ o. list_any (λ key. is_stopped key (seen units lanes)) (cons_option (option_map (λ (lane : Lane). lane.key) o) (filter_map (key_at lanes) qs))) at.1
      ∙ ap (λ b. b || list_any (λ key. is_stopped key (seen units lanes)) (filter_map (key_at lanes) qs)) (stopped-is units lanes names q w it.named at.1)
      ∙ by w.stopped refl
      ∙ ap (λ o. is_some (option_or (stopped_reason o) (first_stopped_of lanes qs))) (sym at.1)

  status-free : (p n : ℕ) (u : Entry) → slice_get units p ≡ Some u → slice_get board.heads p ≡ Some n → u.live ≡ true
      → status_of_free (seen units lanes) (seen_unit lanes u) ≡ status_by_count lanes u.queues n
  status-free p n u at_p at_n live =
      let known : AreKnown u.queues lanes = λ q h. it.kept.counted.known p u q at_p h in
      let keys = filter_map (key_at lanes) u.queues in
      let stop : QueueKey → Bool = λ key. is_stopped key (seen units lanes) in
      let head : QueueKey → Bool = λ key. heads u.tid (seen units lanes) key in
      let full = all-count (lets_go u.tid (seen units lanes)) lanes p u.queues known (λ q w at_q. lets-is it p q u w at_p live at_q) in
      let count = it.kept.counted.counts p u n at_p at_n in
      let by : (b : Bool) → list_any stop keys ≡ b → cond b Waitstop (cond (list_all head keys) Ready Waiting)
      ≡ cond b Waitstop (cond (eqb n (length u.queues)) Ready Waiting) =
      λ b. elim b as (λ b. list_any stop keys ≡ b → cond b Waitstop (cond (list_all head keys) Ready Waiting)
      ≡ cond b Waitstop (cond (eqb n (length u.queues)) Ready Waiting)) [
        | true ↦ λ e. refl
        | false ↦ λ e. ap (λ t. cond t Ready Waiting) (free-heads head stop keys e ∙ full ∙ ap (λ i. eqb i (length u.queues)) (sym count))
      ] in
      by (list_any stop keys) refl ∙ ap (λ b. cond b Waitstop (cond (eqb n (length u.queues)) Ready Waiting)) (any-stopped u.queues known)

  status-head : (p q n : ℕ) (u : Entry) (w : Lane) → slice_get units p ≡ Some u → slice_get board.heads p ≡ Some n → u.live ≡ true → slice_get lanes q ≡ Some w
      → status_by_head w.key (seen units lanes) (seen_unit lanes u) ≡ status_of_head lanes w.stopped n u
  status-head p q n u w at_p at_n live at_q =
      ap (λ b. cond b Stop (cond (is_some u.claim) Running (option_map_or status_of_mark u.mark (status_of_free (seen units lanes) (seen_unit lanes u)))))
      (stopped-is units lanes names q w it.named at_q)
      ∙ ap (λ s. cond w.stopped Stop (cond (is_some u.claim) Running (option_map_or status_of_mark u.mark s))) (status-free p n u at_p at_n live)

  -- the status of the queue of a number
  pub status-lane : (q : ℕ) (w : Lane) → slice_get lanes q ≡ Some w → status_of w.key (seen units lanes) ≡ status_of_lane units lanes board.heads (Some w)
  status-lane q w at_q =
      let by : (o : Option ℕ) → slice_get w.line 0 ≡ o
      → option_map (status_by_head w.key (seen units lanes)) (option_map (seen_unit lanes) (option_and_then (λ i. slice_get units i) o))
      ≡ option_and_then (status_by_place units lanes board.heads w.stopped) o =
      λ o. elim o as (λ o. slice_get w.line 0 ≡ o
      → option_map (status_by_head w.key (seen units lanes)) (option_map (seen_unit lanes) (option_and_then (λ i. slice_get units i) o))
      ≡ option_and_then (status_by_place units lanes board.heads w.stopped) o) [
        | None ↦ λ e. refl
        | Some r ↦ λ e.
            let there = first-stands q 0 units r (ap (λ l. slice_get l 0) (sym (it.kept.counted.lines q w at_q)) ∙ e) in
            let v : Entry = there.0 in
            let z : r - 0 ≡ r = omega arith in
            let at_r : slice_get units r ≡ Some v = ap (λ i. slice_get units i) (sym z) ∙ there.1.1 in
            let live = queued-live it r q v at_r there.1.2 in
            let within = slice_get_within units r v at_r in
            let some = slice_get-within board.heads r (omega (arith, within, it.kept.counted.all)) in
            let n : ℕ = some.0 in
            ap (λ (o : Option Entry). option_map (status_by_head w.key (seen units lanes)) (option_map (seen_unit lanes) o)) at_r
            ∙ ap (λ s. Some s) (status-head r q n v w at_r some.1 live at_q)
            ∙ ap (λ (o : Option Entry). option_map (status_of_head lanes w.stopped n) o) (sym at_r)
            ∙ ap (λ o. option_and_then (λ i. option_map (status_of_head lanes w.stopped i) (slice_get units r)) o) (sym some.1)
      ] in
      ap (λ (o : Option QueuedUnit). option_map (status_by_head w.key (seen units lanes)) o) (head-line it q w at_q) ∙ by (slice_get w.line 0) refl
