-- Which units are free, as the plain definitions say it and as the lists do.
use Rattle.std.specs.Prelude.{slice_get, ◌&&◌}
use Rattle.std.specs.List.{filter_map, list_all, cons_option}
use Rattle.std.specs.Option.{option_map, option_map_or, is_none}
use Rattle.std.proofs.Common.{◌≡◌, ◌<◌, ℕ, length, true, false, ◌||◌, Option, Some, List, [], ◌∷◌, inl, inr, refl, sym, ap, ◌∙◌}
use Rattle.std.proofs.lemmas.Bool.{and_parts, eqb-true}
use Rattle.std.proofs.lemmas.Bool.Decides.{eqb_tells}
use Rattle.ale_base.specs.Tid.{TidOf}
use Rattle.plain_queues.specs.declared.queued_unit.QueuedUnit.{QueuedUnit}
use Rattle.plain_queues.specs.Offered.{heads, is_free_unit, is_free}
use Rattle.multi_queue.specs.declared.board.Board.{Board}
use Rattle.multi_queue.specs.declared.entry.Entry.{Entry}
use Rattle.multi_queue.specs.declared.entry.Lane.{Lane}
use Rattle.multi_queue.specs.Counted.{has, is_first, standing, HeadsAll}
use Rattle.multi_queue.specs.Seen.{key_at, seen, number_of, IsQueues, IsNowhere, AreKnown, heads_lane, heads_all_of, is_free_of}
use Rattle.ale_base.proofs.ListLemmas.{slice_get-within}
use Rattle.multi_queue.proofs.SeenLemmas.{unit_of-here, unit_of-gone}
use Rattle.multi_queue.proofs.OfferLemmas.{heads-is, known-here, known-later}
use Rattle.multi_queue.proofs.ReasonLemmas.{known-of}

first_at : (line : List ℕ) (p : ℕ) → is_first p line ≡ true → slice_get line 0 ≡ Some p
first_at [] p first = absurd (cc)
first_at (x ∷ xs) p first = ap (λ i. Some i) (sym (eqb-true p x first))

-- each queue of those that are headed is
head-among : (lanes : List Lane) (p q : ℕ) (qs : List ℕ) → heads_all_of lanes p qs ≡ true → has q qs ≡ true → heads_lane p (slice_get lanes q) ≡ true
head-among lanes p q [] all h = cc
head-among lanes p q (x ∷ xs) all h =
    let parts = and_parts (heads_lane p (slice_get lanes x)) (heads_all_of lanes p xs) all in
    elim (eqb_tells q x) [
      | inl same ↦ ap (λ i. heads_lane p (slice_get lanes i)) same.1 ∙ parts.0
      | inr other ↦ head-among lanes p q xs parts.1 (sym (ap (λ b. b || has q xs) other.0) ∙ h)
    ]

module _ {units : List Entry} {lanes : List Lane} {board : Board} {places : ℕ × ℕ → Option ℕ} {names : ℕ × List ℕ → Option ℕ}
    (it : IsQueues units lanes board places names) where
  heads-all : (p : ℕ) (u : Entry) (qs : List ℕ) → slice_get units p ≡ Some u → u.live ≡ true → AreKnown qs lanes
      → list_all (heads u.tid (seen units lanes)) (filter_map (key_at lanes) qs) ≡ heads_all_of lanes p qs
  heads-all p u [] at_p live known = refl
  heads-all p u (q ∷ qs) at_p live known =
      let at = slice_get-within lanes q (known q (known-here q qs)) in
      let w : Lane = at.0 in
      let rest = heads-all p u qs at_p live (λ r h. known r (known-later q r qs h)) in
      ap (λ o. list_all (heads u.tid (seen units lanes)) (cons_option (option_map (λ (lane : Lane). lane.key) o) (filter_map (key_at lanes) qs))) at.1
      ∙ ap (λ b. b && list_all (heads u.tid (seen units lanes)) (filter_map (key_at lanes) qs)) (heads-is it p q u w at_p live at.1)
      ∙ ap (λ b. is_first p w.line && b) rest
      ∙ ap (λ o. heads_lane p o && heads_all_of lanes p qs) (sym at.1)

  -- whether the unit at a place is free
  pub free-at : (tid : TidOf) (p : ℕ) (u : Entry) → places (number_of tid) ≡ Some p → slice_get units p ≡ Some u → u.live ≡ true
      → is_free tid (seen units lanes) ≡ is_free_of lanes p u
  free-at tid p u names at_p live =
      ap (λ (o : Option QueuedUnit). option_map_or (is_free_unit (seen units lanes)) o false)
      (unit_of-here tid units lanes places p u it.placed names at_p live)
      ∙ ap (λ b. is_none u.claim && is_none u.mark && b) (heads-all p u u.queues at_p live (known-of it.kept p u at_p))

  pub free-nowhere : (tid : TidOf) → IsNowhere tid units places → is_free tid (seen units lanes) ≡ false
  free-nowhere tid none =
      ap (λ (o : Option QueuedUnit). option_map_or (is_free_unit (seen units lanes)) o false) (unit_of-gone tid units lanes places it.placed none.nowhere)

  heads-told : (p q : ℕ) → q < length lanes → heads_lane p (slice_get lanes q) ≡ true → slice_get (standing q 0 units) 0 ≡ Some p
  heads-told p q known told = by (slice_get-within lanes q known)
    where
      by : (w : Lane) × (slice_get lanes q ≡ Some w) → slice_get (standing q 0 units) 0 ≡ Some p
      by (w, at_q) = ap (λ (l : List ℕ). slice_get l 0) (sym (it.kept.counted.lines q w at_q))
          ∙ first_at w.line p (ap (λ (o : Option Lane). heads_lane p o) (sym at_q) ∙ told)

  -- a unit that is free heads all its queues
  pub free-heads : (p : ℕ) (u : Entry) → slice_get units p ≡ Some u → is_free_of lanes p u ≡ true → HeadsAll p units
  free-heads p u at_p free =
      let all = (and_parts (is_none u.claim && is_none u.mark) (heads_all_of lanes p u.queues) free).1 in
      record {
        first = λ v q at_v has_q.
            let same : v ≡ u = cc (at_p, at_v) in
            let has_u : has q u.queues ≡ true = ap (λ (x : Entry). has q x.queues) (sym same) ∙ has_q in
            heads-told p q (it.kept.counted.known p u q at_p has_u) (head-among lanes p q u.queues all has_u);
      }
