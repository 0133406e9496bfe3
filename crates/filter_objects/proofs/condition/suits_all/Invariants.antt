use Rattle.std.specs.List.{list_all}
use Rattle.std.proofs.Common.{◌≡◌, drop}
use Rattle.idoc_tree.specs.Nodes.{tree_of}
use Rattle.filter_objects.specs.steps.Conditions.{suits}
use Rattle.filter_objects.proofs.condition.suits_all.Given as goal

abbrev pub invariant-loop-condition : goal.invariant-loop-condition
invariant-loop-condition l =
    list_all (suits l.definitions (tree_of l.node).root) (drop l.condition-index l.conditions)
    ≡ list_all (suits l.definitions (tree_of l.node).root) l.conditions
