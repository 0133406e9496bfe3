use Rattle.std.proofs.lemmas.Option.{slice_get_within}
use Rattle.std.proofs.Common.{◌≡◌, List, ℕ, Some, None, [], true, subst, refl, sym, ap, ◌∙◌, arith, slice_get, slice_set}
use Rattle.multi_queue.specs.declared.entry.Entry.{Entry}
use Rattle.multi_queue.specs.Counted.{IsCounted, Leaves}
use Rattle.ale_base.proofs.ListLemmas.{slice_get-within}
use Rattle.multi_queue.proofs.CountedLemmas.{set-here, set-get, set-twice, left-none, board-units}
use Rattle.multi_queue.proofs.FlagLemmas.{same-counted}
use Rattle.multi_queue.proofs.counting.Counting.enter.Goals as goal

pub refresh-requires-clause-board : goal.refresh-requires-clause-board
refresh-requires-clause-board c =
    let within = slice_get_within c.join_from.new.self.units c.args.place c.at_mut.result.now c.at_mut.ensures.value in
    board-units c.args.place _ c.join_from.new.self.units c.join_from.new.self.board (c.in-Ok.ensures.kept.leaves (omega (arith, within)))

pub returns-in-Ok-clause-kept : goal.returns-in-Ok-clause-kept
returns-in-Ok-clause-kept c =
    let x : Entry = c.at_mut.result.now in
    let v : Entry = record x { live = true } in
    let after = c.join_from.new.self in
    record {
      counted = subst (λ (l : List ℕ). IsCounted None (slice_set after.units c.args.place v) after.lanes l) (sym c.refresh.ensures.heads)
          (same-counted after.units after.lanes after.board.heads c.args.place x v c.at_mut.ensures.value refl c.in-Ok.ensures.kept.counted);
      leaves = λ _. c.refresh.ensures.board;
    }

-- the unit with its queues, which is live then
as-entered : (p : ℕ) (before units : List Entry) (u x : Entry) (qs : List ℕ) → Leaves p before units → slice_get before p ≡ Some u →
    slice_get units p ≡ Some x → x.queues ≡ qs
    → slice_set units p (record x { live = true }) ≡ slice_set before p (record u { queues = qs; live = true })
as-entered p before units u x qs leaves got now is =
    let one = leaves.leaves u got in
    let there : slice_get units p ≡ Some (record u { queues = one.0 }) = ap (λ (l : List Entry). slice_get l p) one.1
    ∙ set-here before p u (record u { queues = one.0 }) got in
    let same : record u { queues = one.0 } ≡ x = cc (there, now) in
    let queues : one.0 ≡ qs = ap (λ (y : Entry). y.queues) same ∙ is in
    ap (λ (y : Entry). slice_set units p (record y { live = true })) (sym same)
    ∙ ap (λ (l : List Entry). slice_set l p (record u { queues = one.0; live = true })) one.1
    ∙ set-twice before p (record u { queues = one.0 }) (record u { queues = one.0; live = true })
    ∙ ap (λ (l : List ℕ). slice_set before p (record u { queues = l; live = true })) queues

pub returns-in-Ok-clause-ok : goal.returns-in-Ok-clause-ok
returns-in-Ok-clause-ok c = record {
  entered = λ u got.
      as-entered c.args.place c.args.self.now.units c.join_from.new.self.units u c.at_mut.result.now c.args.queues.now c.in-Ok.ensures.others got
      c.at_mut.ensures.value
      (c.in-Ok.ensures.ok.is_in c.at_mut.result.now c.at_mut.ensures.value);
}

-- a unit that is in no queue, as before
as-before : (p : ℕ) (before units : List Entry) (u : Entry) → Leaves p before units → slice_get before p ≡ Some u → u.queues ≡ [] →
    ((x : Entry) → slice_get units p ≡ Some x → x.queues ≡ [])
    → units ≡ before
as-before p before units u leaves got none empty =
    let one = leaves.leaves u got in
    let there : slice_get units p ≡ Some (record u { queues = one.0 }) = ap (λ (l : List Entry). slice_get l p) one.1
    ∙ set-here before p u (record u { queues = one.0 }) got in
    one.1 ∙ ap (λ (l : List ℕ). slice_set before p (record u { queues = l })) (empty (record u { queues = one.0 }) there ∙ sym none) ∙ set-get before p u got

pub returns-in-Err-clause-err : goal.returns-in-Err-clause-err
returns-in-Err-clause-err c =
    let at = slice_get-within c.args.self.now.units c.args.place (omega (arith, c.requires.last.last)) in
    as-before c.args.place c.args.self.now.units c.join_from.new.self.units at.0 c.in-Err.ensures.others at.1
    (left-none c.args.place c.args.self.now.units at.0 at.1 c.requires.none)
    (λ x now. left-none c.args.place c.join_from.new.self.units x now c.in-Err.ensures.err)
