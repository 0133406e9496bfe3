use Rattle.std.proofs.Common.{◌+◌, length, take, get_or, arith, ap, ◌∙◌, List, ℕ}
use Rattle.std.proofs.lemmas.List.{length-take-le}
use Rattle.multi_queue.specs.Counted.{has}
use Rattle.ale_base.proofs.ListLemmas.{slice_get-within}
use Rattle.multi_queue.proofs.CountedLemmas.{leaves-none, leaves-both, leaves-last, lanes-same, lanes-more, left-none, differ-take, has-at}
use Rattle.multi_queue.proofs.CountedLemmas.{joined-in, take_more}
use Rattle.multi_queue.proofs.counting.Counting.join_all.Goals as goal

pub loop-queue-init : goal.loop-queue-init
loop-queue-init g c = record {
  kept = c.requires.kept;
  last = c.requires.last;
  others = leaves-none c.args.place c.args.self.now.units;
  lanes = lanes-same c.args.self.now.lanes;
  is_in = record { is_in = λ u got. left-none c.args.place c.args.self.now.units u got c.requires.none };
}

pub join_one-requires-clause-known : goal.join_one-requires-clause-known
join_one-requires-clause-known g c =
    omega (
      arith,
      c.requires.queues.known (get_or c.args.queues.now c.loop-queue.queue-index 0)
          (has-at c.args.queues.now c.loop-queue.queue-index (omega arith)),
      c.loop-queue.invariant.lanes.count,
    )

pub join_one-requires-clause-joining : goal.join_one-requires-clause-joining
join_one-requires-clause-joining g c =
    let i = c.loop-queue.queue-index in
    let it = slice_get-within c.loop-queue.self.units c.args.place (omega (arith, c.loop-queue.invariant.last.last)) in
    let queues = c.loop-queue.invariant.is_in.is_in it.0 it.1 in
    record {
      unit = it.0;
      stands = it.1;
      last = c.loop-queue.invariant.last.last;
      apart = ap (λ (l : List ℕ). has (get_or c.args.queues.now i 0) l) queues ∙ differ-take c.args.queues.now i c.requires.queues.apart (omega arith);
      few = let f = ap (λ (l : List ℕ). length l) queues in omega (arith, f, length-take-le i c.args.queues.now, c.requires.queues.few);
      dead = c.loop-queue.invariant.last.dead it.0 it.1;
    }

pub returns-in-Err-clause-others : goal.returns-in-Err-clause-others
returns-in-Err-clause-others g c =
    leaves-both c.args.place c.args.self.now.units c.join_one.new.self.units c.part_all.new.self.units
    (leaves-both c.args.place c.args.self.now.units c.loop-queue.self.units c.join_one.new.self.units c.loop-queue.invariant.others c.join_one.ensures.others)
    c.part_all.ensures.others

pub returns-in-Err-clause-lanes : goal.returns-in-Err-clause-lanes
returns-in-Err-clause-lanes g c =
    lanes-more c.args.self.now.lanes c.join_one.new.self.lanes c.part_all.new.self.lanes
    (lanes-more c.args.self.now.lanes c.loop-queue.self.lanes c.join_one.new.self.lanes c.loop-queue.invariant.lanes c.join_one.ensures.lanes)
    c.part_all.ensures.lanes

pub loop-queue-preserved : goal.loop-queue-preserved
loop-queue-preserved g c =
    let i = c.loop-queue.queue-index in
    let q = get_or c.args.queues.now i 0 in
    let it = slice_get-within c.loop-queue.self.units c.args.place (omega (arith, c.loop-queue.invariant.last.last)) in
    let joined = c.in_default.ensures.ok in
    record {
      kept = c.join_one.ensures.kept;
      last = leaves-last c.args.place c.loop-queue.self.units c.join_one.new.self.units it.0 it.1 c.join_one.ensures.others c.loop-queue.invariant.last;
      others = leaves-both c.args.place c.args.self.now.units c.loop-queue.self.units c.join_one.new.self.units c.loop-queue.invariant.others
          c.join_one.ensures.others;
      lanes = lanes-more c.args.self.now.lanes c.loop-queue.self.lanes c.join_one.new.self.lanes c.loop-queue.invariant.lanes c.join_one.ensures.lanes;
      is_in = joined-in q c.args.place (take i c.args.queues.now) (take (i + 1) c.args.queues.now) c.loop-queue.self.units c.join_one.new.self.units it.0 it.1
          (take_more c.args.queues.now i (omega arith)) c.loop-queue.invariant.is_in joined;
    }
