use Rattle.std.proofs.Common.{arith, length, ap, List}
use Rattle.std.proofs.lemmas.List.{length-set}
use Rattle.multi_queue.specs.declared.entry.Entry.{Entry}
use Rattle.multi_queue.specs.Counted.{cut}
use Rattle.multi_queue.proofs.CountedLemmas.{leaves-none, leaves-more, leaves-fewer, cut-claimed, lanes-same, lanes-more}
use Rattle.multi_queue.proofs.counting.Counting.leave_all.Goals as goal

pub loop-queue-init : goal.loop-queue-init
loop-queue-init g c = record {
  kept = c.requires.kept;
  claimed = c.requires.claimed;
  lanes = lanes-same c.args.self.now.lanes;
  within = c.requires.within;
  heads_all = c.requires.heads_all;
  others = leaves-none c.args.place c.args.self.now.units;
  cost = omega arith;
}

pub loop-queue-smaller : goal.loop-queue-smaller
loop-queue-smaller g c = leaves-fewer c.in-Some.queue c.args.place c.loop-queue.self.units c.leave_one.new.self.units
    (record {
      unit = c.index.result.now;
      stands = c.index.ensures;
      ends = c.in-Some.ensures;
      heads_all = c.loop-queue.invariant.heads_all;
      claimed = c.loop-queue.invariant.claimed.claimed c.index.result.now c.index.ensures;
    }) c.leave_one.ensures.units

pub loop-queue-preserved : goal.loop-queue-preserved
loop-queue-preserved g c = record {
  kept = c.leave_one.ensures.kept;
  claimed = cut-claimed c.args.place c.loop-queue.self.units c.leave_one.new.self.units c.index.result.now c.index.ensures c.leave_one.ensures.units
      (c.loop-queue.invariant.claimed.claimed c.index.result.now c.index.ensures);
  lanes = lanes-more c.args.self.now.lanes c.loop-queue.self.lanes c.leave_one.new.self.lanes c.loop-queue.invariant.lanes c.leave_one.ensures.lanes;
  within = omega (
    arith,
    c.loop-queue.invariant.within,
    ap (λ (l : List Entry). length l) (c.leave_one.ensures.units.cuts c.index.result.now c.index.ensures),
    length-set c.loop-queue.self.units c.args.place (cut c.index.result.now),
  );
  heads_all = c.leave_one.ensures.heads_all;
  others = leaves-more c.args.place c.args.self.now.units c.loop-queue.self.units c.leave_one.new.self.units c.loop-queue.invariant.others
      c.leave_one.ensures.units;
  cost = omega (arith, c.leave_one.ensures.cost, c.loop-queue.invariant.cost);
}
