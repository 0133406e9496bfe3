use Rattle.multi_queue.specs.Bits.{IsOnWay}
use Rattle.multi_queue.proofs.bits.first.Given as goal

abbrev pub invariant-loop-level : goal.invariant-loop-level
invariant-loop-level l = IsOnWay l.height l.level l.at l.nodes
