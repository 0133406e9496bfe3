-- Why a unit is not offered, as the plain definitions say it and as the lists do.
use Rattle.std.specs.Prelude.{find, slice_get}
use Rattle.std.specs.List.{filter_map, cons_option}
use Rattle.std.specs.Option.{option_map, option_map_or, option_or, option_and_then}
use Rattle.std.proofs.Common.{◌≡◌, ◌-◌, ℕ, Bool, true, false, eqb, cond, Option, Some, None, List, [], ◌∷◌, refl, sym, ap, ◌∙◌, arith}
use Rattle.std.proofs.lemmas.Option.{slice_get_within}
use Rattle.ale_base.specs.Tid.{TidOf}
use Rattle.plain_queues.specs.declared.queued_unit.QueuedUnit.{QueuedUnit}
use Rattle.plain_queues.specs.declared.not_offered.NotOffered.TheVariants.{Unknown, Running, Failed, Stopped, Behind}
use Rattle.plain_queues.specs.Queues.{head_of, is_stopped}
use Rattle.plain_queues.specs.Offered.{behind_head, first_stopped, first_behind, why_not_unit, why_not}
use Rattle.multi_queue.specs.declared.board.Board.{Board}
use Rattle.multi_queue.specs.declared.entry.Entry.{Entry}
use Rattle.multi_queue.specs.declared.entry.Lane.{Lane}
use Rattle.multi_queue.specs.Counted.{AreKept}
use Rattle.multi_queue.specs.Seen.{key_at, seen_unit, seen, number_of, IsQueues, IsNowhere, AreKnown, AreHeaded, stopped_reason, first_stopped_of, head_reason}
use Rattle.multi_queue.specs.Seen.{behind_reason, first_behind_of, why_not_of}
use Rattle.ale_base.proofs.ListLemmas.{slice_get-within}
use Rattle.multi_queue.proofs.CountedLemmas.{first-stands}
use Rattle.multi_queue.proofs.SeenLemmas.{unit_of-here, unit_of-gone}
use Rattle.multi_queue.proofs.OfferLemmas.{stopped-is, head-line, tid-place, queued-live, known-here, known-later}

-- the queues of a unit are known, and the first place of each line is one of a unit
pub known-of : {but : Option ℕ} {units : List Entry} {lanes : List Lane} {board : Board} → AreKept but units lanes board → (p : ℕ) (u : Entry) →
    slice_get units p ≡ Some u → AreKnown u.queues lanes
known-of it p u at_p = λ q h. it.counted.known p u q at_p h

pub headed-all : {but : Option ℕ} {units : List Entry} {lanes : List Lane} {board : Board} → AreKept but units lanes board → AreHeaded units lanes
headed-all {units = units} it = λ q p w at_q first.
    let there = first-stands q 0 units p (ap (λ l. slice_get l 0) (sym (it.counted.lines q w at_q)) ∙ first) in
    let z : p - 0 ≡ p = omega arith in
    slice_get_within units p there.0 (ap (λ i. slice_get units i) (sym z) ∙ there.1.1)

module _ {units : List Entry} {lanes : List Lane} {board : Board} {places : ℕ × ℕ → Option ℕ} {names : ℕ × List ℕ → Option ℕ}
    (it : IsQueues units lanes board places names) where
  first-stopped : (qs : List ℕ) → AreKnown qs lanes → first_stopped (seen units lanes) (filter_map (key_at lanes) qs) ≡ first_stopped_of lanes qs
  first-stopped [] known = refl
  first-stopped (q ∷ qs) known =
      let at = slice_get-within lanes q (known q (known-here q qs)) in
      let w : Lane = at.0 in
      let rest = first-stopped qs (λ r h. known r (known-later q r qs h)) in
      let by : (b : Bool) → is_stopped w.key (seen units lanes) ≡ b
      → option_map Stopped (cond b (Some w.key) (find (λ key. is_stopped key (seen units lanes)) (filter_map (key_at lanes) qs)))
      ≡ option_or (cond b (Some (Stopped w.key)) None) (first_stopped_of lanes qs) =
      λ b. elim b as (λ b. is_stopped w.key (seen units lanes) ≡ b →
      option_map Stopped (cond b (Some w.key) (find (λ key. is_stopped key (seen units lanes)) (filter_map (key_at lanes) qs)))
      ≡ option_or (cond b (Some (Stopped w.key)) None) (first_stopped_of lanes qs))
      [ true ↦ λ e. refl | false ↦ λ e. rest ] in
      ap (λ o. first_stopped (seen units lanes) (cons_option (option_map (λ (lane : Lane). lane.key) o) (filter_map (key_at lanes) qs))) at.1
      ∙ by (is_stopped w.key (seen units lanes)) refl
      ∙ ap (λ b. option_or (cond b (Some (Stopped w.key)) None) (first_stopped_of lanes qs)) (stopped-is units lanes names q w it.named at.1)
      ∙ ap (λ o. option_or (stopped_reason o) (first_stopped_of lanes qs)) (sym at.1)

  -- the unit that heads a queue, where that is another one
  behind-one : (p q : ℕ) (u : Entry) (w : Lane) → slice_get units p ≡ Some u → u.live ≡ true → slice_get lanes q ≡ Some w
      → behind_head u.tid w.key (head_of w.key (seen units lanes)) ≡ behind_reason units p (Some w)
  behind-one p q u w at_p live at_q =
      let by : (o : Option ℕ) → slice_get w.line 0 ≡ o
      → behind_head u.tid w.key (option_map (seen_unit lanes) (option_and_then (λ i. slice_get units i) o)) ≡ head_reason units p w.key o =
      λ o. elim o as (λ o. slice_get w.line 0 ≡ o → behind_head u.tid w.key (option_map (seen_unit lanes) (option_and_then (λ i. slice_get units i) o))
      ≡ head_reason units p w.key o) [
        | None ↦ λ e. refl
        | Some r ↦ λ e.
            let there = first-stands q 0 units r (ap (λ l. slice_get l 0) (sym (it.kept.counted.lines q w at_q)) ∙ e) in
            let v : Entry = there.0 in
            let z : r - 0 ≡ r = omega arith in
            let at_r : slice_get units r ≡ Some v = ap (λ i. slice_get units i) (sym z) ∙ there.1.1 in
            let same = tid-place it p r u v at_p at_r live (queued-live it r q v at_r there.1.2) in
            ap (λ (o : Option Entry). behind_head u.tid w.key (option_map (seen_unit lanes) o)) at_r
            ∙ ap (λ b. cond b None (Some (Behind w.key v.tid))) same
            ∙ ap (λ (o : Option Entry). cond (eqb p r) None (option_map (λ (x : Entry). Behind w.key x.tid) o)) (sym at_r)
      ] in
      ap (λ (o : Option QueuedUnit). behind_head u.tid w.key o) (head-line it q w at_q) ∙ by (slice_get w.line 0) refl

  first-behind : (p : ℕ) (u : Entry) (qs : List ℕ) → slice_get units p ≡ Some u → u.live ≡ true → AreKnown qs lanes
      → first_behind u.tid (seen units lanes) (filter_map (key_at lanes) qs) ≡ first_behind_of units lanes p qs
  first-behind p u [] at_p live known = refl
  first-behind p u (q ∷ qs) at_p live known =
      let at = slice_get-within lanes q (known q (known-here q qs)) in
      let w : Lane = at.0 in
      let rest = first-behind p u qs at_p live (λ r h. known r (known-later q r qs h)) in
      ap (λ o. first_behind u.tid (seen units lanes) (cons_option (option_map (λ (lane : Lane). lane.key) o) (filter_map (key_at lanes) qs))) at.1
      ∙ ap (λ o. option_or o (first_behind u.tid (seen units lanes) (filter_map (key_at lanes) qs))) (behind-one p q u w at_p live at.1)
      ∙ ap (option_or (behind_reason units p (Some w))) rest
      ∙ ap (λ o. option_or (behind_reason units p o) (first_behind_of units lanes p qs)) (sym at.1)

  -- why the unit at a place is not offered
  pub why-at : (tid : TidOf) (p : ℕ) (u : Entry) → places (number_of tid) ≡ Some p → slice_get units p ≡ Some u → u.live ≡ true
      → why_not tid (seen units lanes) ≡ why_not_of units lanes p u
  why-at tid p u names at_p live =
      ap (λ (o : Option QueuedUnit). option_map_or (why_not_unit (seen units lanes)) o (Some Unknown))
      (unit_of-here tid units lanes places p u it.placed names at_p live)
      ∙ ap (λ o. option_or (option_map Running u.claim)
      (option_or (option_map Failed u.mark) (option_or o (first_behind u.tid (seen units lanes) (filter_map (key_at lanes) u.queues)))))
      (first-stopped u.queues (known-of it.kept p u at_p))
      ∙ ap (λ o. option_or (option_map Running u.claim) (option_or (option_map Failed u.mark) (option_or (first_stopped_of lanes u.queues) o)))
      (first-behind p u u.queues at_p live (known-of it.kept p u at_p))

  pub why-nowhere : (tid : TidOf) → IsNowhere tid units places → why_not tid (seen units lanes) ≡ Some Unknown
  why-nowhere tid none =
      ap (λ (o : Option QueuedUnit). option_map_or (why_not_unit (seen units lanes)) o (Some Unknown))
      (unit_of-gone tid units lanes places it.placed none.nowhere)
