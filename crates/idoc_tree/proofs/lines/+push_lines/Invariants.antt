use Rattle.std.proofs.Common.{◌≡◌, ◌++◌, drop}
use Rattle.idoc_tree.specs.Forest.{AllNodes}
use Rattle.idoc_tree.specs.Nodes.{forest_of}
use Rattle.idoc_tree.specs.Lines.{IsNode, lines_of}
use Rattle.idoc_tree.proofs.lines.+push_lines.Given as goal

abbrev pub invariant-loop-node : goal.invariant-loop-node
invariant-loop-node l = record {
  nodes : AllNodes (IsNode l.definitions) (forest_of (drop l.node-index l.nodes));
  same : l.lines.items ++ lines_of l.definitions (forest_of (drop l.node-index l.nodes)) ≡ l.fn.lines.items ++ lines_of l.definitions (forest_of l.nodes);
}
