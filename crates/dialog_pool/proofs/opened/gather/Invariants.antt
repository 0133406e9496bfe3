use Rattle.std.proofs.Common.{◌≡◌, ◌+◌, vec_len}
use Rattle.dialog_pool.proofs.opened.gather.Given as goal

abbrev pub invariant-loop-worker : goal.invariant-loop-worker
invariant-loop-worker g l = (l.all.parts + vec_len l.workers ≡ g.E.Ledger.parts) × (l.all.amount ≡ l.finished) × (l.book.total ≡ l.initial.book.total)

abbrev pub decreases-loop-worker : goal.decreases-loop-worker
decreases-loop-worker g l = goal.left-loop-worker g l
