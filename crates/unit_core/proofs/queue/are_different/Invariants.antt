use Rattle.std.proofs.Common.{◌≡◌, drop}
use Rattle.unit_core.specs.Queues.{are_different}
use Rattle.unit_core.proofs.queue.are_different.Given as goal

abbrev pub invariant-loop-place : goal.invariant-loop-place
invariant-loop-place l = are_different (drop l.place l.names) ≡ are_different l.names
