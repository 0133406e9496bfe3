use Rattle.std.proofs.Common.{◌≡◌, ◌+◌, true, [], vec_len}
use Rattle.std.specs.Arc.{arc_value}
use Rattle.crossbeam_queue.specs.Passes.{view, IsPassOf}
use Rattle.dialog_pool.specs.Tickets.{hand}
use Rattle.dialog_pool.proofs.opened.open.Given as goal

abbrev pub invariant-loop-worker : goal.invariant-loop-worker
invariant-loop-worker g l =
    IsPassOf (arc_value l.ring) l.pusher × (view l.pusher ≡ hand true 0 []) × (l.rest.parts + l._worker ≡ l.workers)
    × (l.rest.amount ≡ 0) × (vec_len l.all ≡ l._worker)
