use Rattle.std.specs.List.{list_all}
use Rattle.std.proofs.Common.{◌≡◌, drop}
use Rattle.idoc_tree.specs.Nodes.{forest_of}
use Rattle.idoc_tree.specs.Parts.{part}
use Rattle.filter_objects.specs.FromLeaves.{is_enough}
use Rattle.filter_objects.specs.steps.Members.{set_of}
use Rattle.filter_objects.proofs.best.have_enough.Given as goal

abbrev pub invariant-loop-entry : goal.invariant-loop-entry
invariant-loop-entry l =
    list_all (is_enough (part (forest_of l.nodes) (set_of l.set))) (drop l.entry-index l.entries)
    ≡ list_all (is_enough (part (forest_of l.nodes) (set_of l.set))) l.entries
