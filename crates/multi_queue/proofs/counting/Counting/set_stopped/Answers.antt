use Rattle.std.proofs.Common.{refl}
use Rattle.multi_queue.proofs.CountedLemmas.{changed-lane}
use Rattle.multi_queue.proofs.counting.Counting.set_stopped.Goals as goal

pub raise-requires-clause-kept : goal.raise-requires-clause-kept
raise-requires-clause-kept g c = record {
  counted = changed-lane c.args.queue c.args.self.now.units c.args.self.now.lanes c.lower.new.self.heads c.at_mut.result.now _ c.at_mut.ensures.value refl
      c.lower.ensures.kept.counted;
  leaves = c.lower.ensures.kept.leaves;
}
