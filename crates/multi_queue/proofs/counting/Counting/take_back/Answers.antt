use Rattle.std.proofs.Common.{◌≡◌, false, arith, ◌-◌, Some, [], ◌∷◌, ◌++◌, length, take, slice_set, sym, ap, subst, List, ℕ}
use Rattle.multi_queue.specs.declared.entry.Entry.{Entry}
use Rattle.multi_queue.specs.Counted.{IsCounted, cut}
use Rattle.multi_queue.proofs.CountedLemmas.{changed, parting, lanes-line, board-idle, dead-idle}
use Rattle.multi_queue.proofs.counting.Counting.take_back.Goals as goal

pub returns-clause-kept : goal.returns-clause-kept
returns-clause-kept c =
    let it = c.requires.parting in
    let same : it.unit ≡ c.at_mut.result.now = cc (it.stands, c.at_mut.ensures.value) in
    let ends = subst (λ (u : Entry). u.queues ≡ take (length u.queues - 1) u.queues ++ c.args.queue ∷ []) same it.ends in
    let dead : c.at_mut.result.now.live ≡ false = subst (λ (u : Entry). u.live ≡ false) same it.dead in
    record {
      counted =
          subst (λ (l : List ℕ). IsCounted (Some c.args.queue) (slice_set c.args.self.now.units c.args.place (record c.at_mut.result.now { queues = l }))
          (slice_set c.args.self.now.lanes c.args.queue (record c.at_mut-2.result.now { line = c.leave_last.new.self })) c.args.self.now.board.heads)
          (sym c.cut.ensures)
          (changed c.args.queue c.args.place c.args.self.now.units c.args.self.now.lanes c.args.self.now.board.heads c.at_mut.result.now
          (cut c.at_mut.result.now) c.at_mut-2.result.now _
          c.at_mut-2.ensures.value
          (parting c.args.queue c.args.place c.args.self.now.units c.args.self.now.lanes c.args.self.now.board.heads c.at_mut.result.now c.at_mut-2.result.now _
          c.at_mut-2.ensures.value
          c.at_mut.ensures.value it.last ends c.leave_last.ensures c.requires.kept.counted)
          c.requires.kept.counted);
      leaves = λ some. board-idle c.args.place c.at_mut.result.now (record c.at_mut.result.now { queues = c.cut.new.self }) c.args.self.now.units
          c.args.self.now.board c.at_mut.ensures.value (λ o. dead-idle c.at_mut.result.now o dead)
          (λ o. dead-idle (record c.at_mut.result.now { queues = c.cut.new.self }) o dead)
          (c.requires.kept.leaves (omega (arith, c.requires.within)));
    }

pub returns-clause-units : goal.returns-clause-units
returns-clause-units c = record {
  cuts = λ u got.
      let same : c.at_mut.result.now ≡ u = cc (got, c.at_mut.ensures.value) in
      subst (λ (l : List ℕ). slice_set c.args.self.now.units c.args.place (record c.at_mut.result.now { queues = l })
      ≡ slice_set c.args.self.now.units c.args.place (cut u)) (sym c.cut.ensures)
      (ap (λ (v : Entry). slice_set c.args.self.now.units c.args.place (cut v)) same);
}

pub returns-clause-lanes : goal.returns-clause-lanes
returns-clause-lanes c = lanes-line c.args.queue c.args.self.now.lanes c.at_mut-2.result.now c.leave_last.new.self c.at_mut-2.ensures.value
