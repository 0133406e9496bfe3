use Rattle.multi_queue.proofs.CountedLemmas.{leaves-none, leaves-more, lanes-same, lanes-more, parts-fewer, leaves-last, cut-leaves}
use Rattle.multi_queue.proofs.counting.Counting.part_all.Goals as goal

pub loop-queue-init : goal.loop-queue-init
loop-queue-init g c = record {
  kept = c.requires.kept;
  last = c.requires.last;
  others = leaves-none c.args.place c.args.self.now.units;
  lanes = lanes-same c.args.self.now.lanes;
}

pub part_one-requires-clause-parting : goal.part_one-requires-clause-parting
part_one-requires-clause-parting g c = record {
  unit = c.index.result.now;
  stands = c.index.ensures;
  last = c.loop-queue.invariant.last.last;
  ends = c.in-Some.ensures;
  dead = c.loop-queue.invariant.last.dead c.index.result.now c.index.ensures;
}

pub loop-queue-smaller : goal.loop-queue-smaller
loop-queue-smaller g c = parts-fewer c.in-Some.queue c.args.place c.loop-queue.self.units c.part_one.new.self.units
    (record {
      unit = c.index.result.now;
      stands = c.index.ensures;
      last = c.loop-queue.invariant.last.last;
      ends = c.in-Some.ensures;
      dead = c.loop-queue.invariant.last.dead c.index.result.now c.index.ensures;
    }) c.part_one.ensures.units

pub loop-queue-preserved : goal.loop-queue-preserved
loop-queue-preserved g c = record {
  kept = c.part_one.ensures.kept;
  last = leaves-last c.args.place c.loop-queue.self.units c.part_one.new.self.units c.index.result.now c.index.ensures
      (cut-leaves c.args.place c.loop-queue.self.units c.part_one.new.self.units c.part_one.ensures.units) c.loop-queue.invariant.last;
  others = leaves-more c.args.place c.args.self.now.units c.loop-queue.self.units c.part_one.new.self.units c.loop-queue.invariant.others
      c.part_one.ensures.units;
  lanes = lanes-more c.args.self.now.lanes c.loop-queue.self.lanes c.part_one.new.self.lanes c.loop-queue.invariant.lanes c.part_one.ensures.lanes;
}
