use Rattle.std.specs.List.{All}
use Rattle.dialog_pool.proofs.worker.Worker.perform.Given as goal

-- each work in the batch has its ready
abbrev pub invariant-loop-popped : goal.invariant-loop-popped
invariant-loop-popped g l = All (λ one. g.D.Desk.is_of one.ready one.work) l.batch.items
