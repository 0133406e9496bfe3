use Rattle.std.proofs.Common.{◌≡◌, drop}
use Rattle.multi_queue.specs.Seen.{first_stopped_of}
use Rattle.multi_queue.proofs.reasons.first_stopped.Given as goal

-- what is left of the queues decides
abbrev pub invariant-loop-queue : goal.invariant-loop-queue
invariant-loop-queue l = first_stopped_of l.lanes l.queues ≡ first_stopped_of l.lanes (drop l.queue-index l.queues)
