use Rattle.std.proofs.Common.{◌≡◌, drop}
use Rattle.plain_queues.specs.Keys.{keys_differ}
use Rattle.plain_queues.proofs.queue_key.keys_differ.Given as goal

abbrev pub invariant-loop-place : goal.invariant-loop-place
invariant-loop-place l = keys_differ (drop l.place l.keys) ≡ keys_differ l.keys
