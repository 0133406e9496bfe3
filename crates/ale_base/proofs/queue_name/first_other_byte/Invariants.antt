use Rattle.std.proofs.Common.{ℕ, ◌<◌, get_or}
use Rattle.ale_base.specs.QueueName.{IsNameByte}
use Rattle.ale_base.proofs.queue_name.first_other_byte.Given as goal

abbrev pub invariant-loop-place : goal.invariant-loop-place
invariant-loop-place l = (k : ℕ) → k < l.place → IsNameByte (get_or l.bytes k 0)
