use Rattle.std.proofs.Common.{◌≡◌, ◌+◌, ◌≤◌, drop}
use Rattle.idoc_tree.specs.Forest.{roots, count_of}
use Rattle.idoc_tree.specs.Nodes.{forest_of}
use Rattle.idoc_tree.proofs.lacking.count_of.Given as goal

abbrev pub invariant-loop-node : goal.invariant-loop-node
invariant-loop-node l = record {
  within : l.count ≤ l.node-index;
  same : l.count + count_of l.segment (roots (forest_of (drop l.node-index l.nodes))) ≡ count_of l.segment (roots (forest_of l.nodes));
}
