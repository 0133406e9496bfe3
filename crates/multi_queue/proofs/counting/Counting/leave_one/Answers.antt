use Rattle.std.proofs.Common.{◌≡◌, ◌+◌, None, arith, sym, subst, List}
use Rattle.multi_queue.specs.Counted.{HeadsAll, cost_at, looks}
use Rattle.multi_queue.specs.declared.entry.Entry.{Entry}
use Rattle.multi_queue.proofs.CountedLemmas.{cuts, cut-heads, cut-cost, has-ends}
use Rattle.multi_queue.proofs.counting.Counting.leave_one.Goals as goal

pub lower-requires-clause-known : goal.lower-requires-clause-known
lower-requires-clause-known g c = let it = c.requires.leaving in c.requires.kept.counted.known c.args.place it.unit c.args.queue it.stands
    (has-ends it.unit c.args.queue it.ends)

pub take_out-requires-clause-known : goal.take_out-requires-clause-known
take_out-requires-clause-known g c = let it = c.requires.leaving in c.requires.kept.counted.known c.args.place it.unit c.args.queue it.stands
    (has-ends it.unit c.args.queue it.ends)

pub raise-requires-clause-known : goal.raise-requires-clause-known
raise-requires-clause-known g c = let it = c.requires.leaving in
    omega (
      arith,
      c.requires.kept.counted.known c.args.place it.unit c.args.queue it.stands
          (has-ends it.unit c.args.queue it.ends),
      c.take_out.ensures.lanes.count,
    )

pub returns-clause-heads_all : goal.returns-clause-heads_all
returns-clause-heads_all g c = let it = c.requires.leaving in subst (λ (l : List Entry). HeadsAll c.args.place l)
    (sym (c.take_out.ensures.units.cuts it.unit it.stands))
    (cut-heads c.args.queue c.args.place c.args.self.now.units it.unit
    (cuts None c.args.queue c.args.place c.args.self.now.units c.args.self.now.lanes c.args.self.now.board.heads it.unit it.stands it.ends
    c.requires.kept.counted) it.heads_all)

pub returns-clause-cost : goal.returns-clause-cost
returns-clause-cost g c =
    let it = c.requires.leaving in
    let e = cut-cost c.args.queue c.args.place c.args.self.now.units it.unit
    (cuts None c.args.queue c.args.place c.args.self.now.units c.args.self.now.lanes c.args.self.now.board.heads it.unit it.stands it.ends
    c.requires.kept.counted) it.heads_all in
    let f = subst (λ (l : List Entry). 1 + looks c.args.queue l + cost_at c.args.place l ≡ cost_at c.args.place c.args.self.now.units)
    (sym (c.take_out.ensures.units.cuts it.unit it.stands)) e in
    omega (arith, f, c.lower.ensures.cost, c.raise.ensures.cost)
