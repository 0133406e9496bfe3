use Rattle.std.proofs.Common.{arith, get_or}
use Rattle.multi_queue.proofs.CountedLemmas.{has-at}
use Rattle.multi_queue.proofs.reasons.heads_all.Goals as goal

pub index-requires : goal.index-requires
index-requires c = c.requires.known (get_or c.args.queues.now c.loop-queue.queue-index 0) (has-at c.args.queues.now c.loop-queue.queue-index (omega arith))
