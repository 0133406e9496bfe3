use Rattle.std.proofs.Common.{◌≡◌, ◌+◌, ◌-◌, ◌≤◌, length, drop}
use Rattle.idoc_tree.specs.Forest.{preorder}
use Rattle.idoc_tree.specs.Nodes.{forest_of}
use Rattle.idoc_tree.specs.Valid.{families_below}
use Rattle.idoc_tree.specs.steps.Lacking.{first_lack}
use Rattle.idoc_tree.proofs.LackLemmas.{shifted}
use Rattle.idoc_tree.proofs.lacking.+first_lack.Given as goal

abbrev pub invariant-loop-node : goal.invariant-loop-node
invariant-loop-node l = record {
  later : l.fn.number ≤ l.number;
  count : l.number + length (preorder (forest_of (drop l.node-index l.nodes))) ≡ l.fn.number + length (preorder (forest_of l.nodes));
  lack : first_lack l.ty.segments (families_below (forest_of l.nodes))
      ≡ shifted (l.number - l.fn.number) (first_lack l.ty.segments (families_below (forest_of (drop l.node-index l.nodes))));
}
