use Rattle.std.proofs.Common.{◌≡◌, ◌+◌, ◌^◌, ◌<◌}
use Rattle.std.specs.List.{All}
use Rattle.std.specs.VecDeque.{deque_len}
use Rattle.dialog_pool.proofs.locked.Locked.act_all.Given as goal

-- what is left has its readies, and the share grew by what the works so far finished
abbrev pub invariant-loop-one : goal.invariant-loop-one
invariant-loop-one g l = record {
  ready : All (λ one. g.D.Desk.is_of one.ready one.work) l.batch.items;
  amount : l.share.amount ≡ l.initial.share.amount + l.finished;
  fits : l.share.amount < 2 ^ 64;
  parts : l.share.parts ≡ l.initial.share.parts;
}

abbrev pub decreases-loop-one : goal.decreases-loop-one
decreases-loop-one g l = deque_len l.batch
