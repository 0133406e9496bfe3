use Rattle.std.proofs.Common.{◌-◌, Some, None, ℕ, List, arith, sym, subst, inl, inr}
use Rattle.std.proofs.lemmas.Option.{slice_get_within}
use Rattle.multi_queue.specs.Counted.{IsCounted}
use Rattle.multi_queue.proofs.CountedLemmas.{fronts, lowered, closed-counts, board-heads}
use Rattle.multi_queue.proofs.board.Board.lower.Goals as goal

pub refresh-requires-clause-within : goal.refresh-requires-clause-within
refresh-requires-clause-within g c =
    let it = fronts None c.args.queue c.args.units.now c.args.lanes.now c.args.self.now.heads c.index-lane.result.now c.in-Some.place c.index-lane.ensures
    c.if-not-lane.true (sym c.in-Some.ensures.first) c.requires.kept.counted in
    slice_get_within c.args.units.now c.in-Some.place it.unit it.stands

pub at_mut-requires : goal.at_mut-requires
at_mut-requires g c =
    let it = fronts None c.args.queue c.args.units.now c.args.lanes.now c.args.self.now.heads c.index-lane.result.now c.in-Some.place c.index-lane.ensures
    c.if-not-lane.true (sym c.in-Some.ensures.first) c.requires.kept.counted in
    omega (arith, slice_get_within c.args.units.now c.in-Some.place it.unit it.stands, c.requires.kept.counted.all)

pub overflow_sub-at_mut : goal.overflow_sub-at_mut
overflow_sub-at_mut g c = (lowered c.args.queue c.args.units.now c.args.lanes.now c.args.self.now.heads c.in-Some.place c.at_mut.result.now
    (fronts None c.args.queue c.args.units.now c.args.lanes.now c.args.self.now.heads c.index-lane.result.now c.in-Some.place c.index-lane.ensures
    c.if-not-lane.true (sym c.in-Some.ensures.first) c.requires.kept.counted) c.at_mut.ensures.value c.requires.kept.counted).0

pub refresh-requires-clause-board : goal.refresh-requires-clause-board
refresh-requires-clause-board g c =
    let it = fronts None c.args.queue c.args.units.now c.args.lanes.now c.args.self.now.heads c.index-lane.result.now c.in-Some.place c.index-lane.ensures
    c.if-not-lane.true (sym c.in-Some.ensures.first) c.requires.kept.counted in
    let within = slice_get_within c.args.units.now c.in-Some.place it.unit it.stands in
    board-heads c.in-Some.place (c.at_mut.result.now - 1) c.args.units.now c.args.self.now (c.requires.kept.leaves (omega (arith, within)))

pub returns-in-Some-clause-kept : goal.returns-in-Some-clause-kept
returns-in-Some-clause-kept g c = record {
  counted = subst (λ (l : List ℕ). IsCounted (Some c.args.queue) c.args.units.now c.args.lanes.now l) (sym c.refresh.ensures.heads)
      (lowered c.args.queue c.args.units.now c.args.lanes.now c.args.self.now.heads c.in-Some.place c.at_mut.result.now
      (fronts None c.args.queue c.args.units.now c.args.lanes.now c.args.self.now.heads c.index-lane.result.now c.in-Some.place c.index-lane.ensures
      c.if-not-lane.true (sym c.in-Some.ensures.first) c.requires.kept.counted) c.at_mut.ensures.value c.requires.kept.counted).1;
  leaves = λ _. c.refresh.ensures.board;
}

pub returns-in-None-clause-kept : goal.returns-in-None-clause-kept
returns-in-None-clause-kept g c = record {
  counted = closed-counts c.args.queue c.args.units.now c.args.lanes.now c.args.self.now.heads c.index-lane.result.now c.index-lane.ensures
      (inr (sym c.in-None.ensures.first)) c.requires.kept.counted;
  leaves = c.requires.kept.leaves;
}

pub returns-else-not-lane-clause-kept : goal.returns-else-not-lane-clause-kept
returns-else-not-lane-clause-kept g c = record {
  counted = closed-counts c.args.queue c.args.units.now c.args.lanes.now c.args.self.now.heads c.index-lane.result.now c.index-lane.ensures
      (inl c.if-not-lane.false) c.requires.kept.counted;
  leaves = c.requires.kept.leaves;
}
