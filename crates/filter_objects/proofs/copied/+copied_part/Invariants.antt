use Rattle.std.proofs.Common.{◌≡◌, drop}
use Rattle.idoc_tree.specs.Forest.{joined}
use Rattle.idoc_tree.specs.Nodes.{forest_of}
use Rattle.idoc_tree.specs.Parts.{part}
use Rattle.filter_objects.specs.steps.Members.{set_of}
use Rattle.filter_objects.proofs.copied.+copied_part.Given as goal

abbrev pub invariant-loop-at : goal.invariant-loop-at
invariant-loop-at l =
    joined (forest_of l.copy.items) (part (forest_of (drop l.at l.nodes)) (set_of (drop l.at l.set))) ≡ part (forest_of l.nodes) (set_of l.set)
