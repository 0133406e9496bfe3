use Rattle.std.proofs.Common.{◌≡◌, drop}
use Rattle.multi_queue.specs.Seen.{first_behind_of}
use Rattle.multi_queue.proofs.reasons.first_behind.Given as goal

-- what is left of the queues decides
abbrev pub invariant-loop-queue : goal.invariant-loop-queue
invariant-loop-queue l = first_behind_of l.units l.lanes l.place l.queues ≡ first_behind_of l.units l.lanes l.place (drop l.queue-index l.queues)
