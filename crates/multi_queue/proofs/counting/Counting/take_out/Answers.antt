use Rattle.std.specs.Option.{is_none}
use Rattle.std.proofs.Common.{◌≡◌, false, arith, ◌-◌, Some, [], ◌∷◌, length, slice_set, sym}
use Rattle.multi_queue.specs.Counted.{IsCounted, cut}
use Rattle.multi_queue.specs.declared.entry.Entry.{Entry}
use Rattle.std.proofs.Common.{subst, ap, take, List, ℕ, ◌++◌}
use Rattle.multi_queue.proofs.counting.Counting.take_out.Goals as goal
use Rattle.multi_queue.proofs.CountedLemmas.{changed, cutting, has-ends, lanes-line, board-idle, claimed-busy}

pub returns-clause-kept : goal.returns-clause-kept
returns-clause-kept c =
    let it = c.requires.leaving in
    let same : it.unit ≡ c.at_mut.result.now = cc (it.stands, c.at_mut.ensures.value) in
    let ends = subst (λ (u : Entry). u.queues ≡ take (length u.queues - 1) u.queues ++ c.args.queue ∷ []) same it.ends in
    let first = it.heads_all.first it.unit c.args.queue it.stands (has-ends it.unit c.args.queue it.ends) in
    let busy : is_none c.at_mut.result.now.claim ≡ false = subst (λ (u : Entry). is_none u.claim ≡ false) same it.claimed in
    record {
      counted =
          subst (λ (l : List ℕ). IsCounted (Some c.args.queue) (slice_set c.args.self.now.units c.args.place (record c.at_mut.result.now { queues = l }))
          (slice_set c.args.self.now.lanes c.args.queue (record c.at_mut-2.result.now { line = c.leave_first.new.self })) c.args.self.now.board.heads)
          (sym c.cut.ensures)
          (changed c.args.queue c.args.place c.args.self.now.units c.args.self.now.lanes c.args.self.now.board.heads c.at_mut.result.now
          (cut c.at_mut.result.now) c.at_mut-2.result.now _
          c.at_mut-2.ensures.value
          (cutting c.args.queue c.args.place c.args.self.now.units c.args.self.now.lanes c.args.self.now.board.heads c.at_mut.result.now c.at_mut-2.result.now _
          c.at_mut-2.ensures.value
          c.at_mut.ensures.value ends first c.leave_first.ensures c.requires.kept.counted)
          c.requires.kept.counted);
      leaves = λ some. board-idle c.args.place c.at_mut.result.now (record c.at_mut.result.now { queues = c.cut.new.self }) c.args.self.now.units
          c.args.self.now.board c.at_mut.ensures.value (λ o. claimed-busy c.at_mut.result.now o busy)
          (λ o. claimed-busy (record c.at_mut.result.now { queues = c.cut.new.self }) o busy)
          (c.requires.kept.leaves (omega (arith, c.requires.within)));
    }

pub returns-clause-units : goal.returns-clause-units
returns-clause-units c = record {
  cuts = λ u got.
      let same : c.at_mut.result.now ≡ u = cc (got, c.at_mut.ensures.value) in
      subst (λ (l : List ℕ). slice_set c.args.self.now.units c.args.place (record c.at_mut.result.now { queues = l })
      ≡ slice_set c.args.self.now.units c.args.place (cut u)) (sym c.cut.ensures)
      (ap (λ (v : Entry). slice_set c.args.self.now.units c.args.place (cut v)) same);
}

pub returns-clause-lanes : goal.returns-clause-lanes
returns-clause-lanes c = lanes-line c.args.queue c.args.self.now.lanes c.at_mut-2.result.now c.leave_first.new.self c.at_mut-2.ensures.value
