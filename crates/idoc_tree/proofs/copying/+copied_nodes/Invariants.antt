use Rattle.std.proofs.Common.{◌≡◌, drop}
use Rattle.idoc_tree.specs.Forest.{joined}
use Rattle.idoc_tree.specs.Nodes.{forest_of}
use Rattle.idoc_tree.proofs.copying.+copied_nodes.Given as goal

abbrev pub invariant-loop-node : goal.invariant-loop-node
invariant-loop-node l = joined (forest_of l.copy.items) (forest_of (drop l.node-index l.nodes)) ≡ forest_of l.nodes
