use Rattle.std.specs.Vec.Iter.{into_iter_items, into_iter_len}
use Rattle.version_reduce.specs.steps.Walked.{IsWalk}
use Rattle.version_reduce.proofs.walk.+walk.Given as goal

abbrev pub invariant-loop-node : goal.invariant-loop-node
invariant-loop-node g l =
    IsWalk (g.S.Step.goes l.step) (g.S.Step.change l.step) l.sent.items (into_iter_items l.node-iterator) (into_iter_len l.node-iterator) l.fn.nodes.items
