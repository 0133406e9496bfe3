use Rattle.std.proofs.Common.{◌≡◌, ◌+◌, ◌≤◌, drop}
use Rattle.idoc_tree.specs.Forest.{roots, count_of}
use Rattle.idoc_tree.specs.Nodes.{forest_of}
use Rattle.idoc_tree.specs.Parts.{part}
use Rattle.filter_objects.specs.steps.Members.{set_of}
use Rattle.filter_objects.proofs.best.count_of.Given as goal

abbrev pub invariant-loop-at : goal.invariant-loop-at
invariant-loop-at l = record {
  within : l.count ≤ l.at;
  same : l.count + count_of l.segment (roots (part (forest_of (drop l.at l.nodes)) (set_of (drop l.at l.set))))
      ≡ count_of l.segment (roots (part (forest_of l.nodes) (set_of l.set)));
}
