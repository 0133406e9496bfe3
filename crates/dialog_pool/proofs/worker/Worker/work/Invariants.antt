use Rattle.std.proofs.Common.{◌≡◌, []}
use Rattle.dialog_pool.proofs.worker.Worker.work.Given as goal

-- no work is left in the batch
abbrev pub invariant-loop : goal.invariant-loop
invariant-loop g l = l.batch.items ≡ []
