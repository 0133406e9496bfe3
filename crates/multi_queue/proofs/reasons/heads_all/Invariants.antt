use Rattle.std.proofs.Common.{◌≡◌, drop}
use Rattle.multi_queue.specs.Seen.{heads_all_of}
use Rattle.multi_queue.proofs.reasons.heads_all.Given as goal

-- what is left of the queues decides
abbrev pub invariant-loop-queue : goal.invariant-loop-queue
invariant-loop-queue l = heads_all_of l.lanes l.place l.queues ≡ heads_all_of l.lanes l.place (drop l.queue-index l.queues)
