use Rattle.std.proofs.Common.{◌≡◌, drop}
use Rattle.idoc_tree.specs.Forest.{roots}
use Rattle.idoc_tree.specs.Nodes.{forest_of}
use Rattle.idoc_tree.specs.Valid.{Family}
use Rattle.idoc_tree.specs.steps.Lacking.{lack_among, lack_of}
use Rattle.idoc_tree.proofs.lacking.lack_of.Given as goal

abbrev pub invariant-loop-entry : goal.invariant-loop-entry
invariant-loop-entry l =
    let family : Family = record { above = l.above; children = roots (forest_of l.nodes) } in
    lack_among l.ty.segments family (drop l.entry-index l.entries) ≡ lack_of l.ty.segments family
