use Rattle.std.proofs.Common.{◌≡◌, drop}
use Rattle.idoc_tree.specs.Forest.{AllNodes}
use Rattle.idoc_tree.specs.Nodes.{forest_of}
use Rattle.filter_objects.specs.FromLeaves.{best}
use Rattle.filter_objects.specs.steps.Conditions.{HasDefinition, suits_all}
use Rattle.filter_objects.specs.steps.Members.{set_of, followed}
use Rattle.filter_objects.specs.steps.Needs.{needs_at}
use Rattle.filter_objects.proofs.best.+best.Given as goal

abbrev pub invariant-loop-node : goal.invariant-loop-node
invariant-loop-node l = record {
  nodes : AllNodes (HasDefinition l.definitions) (forest_of (drop l.node-index l.nodes));
  same : followed (set_of l.set.items) (best (needs_at l.needs) (suits_all l.definitions l.conditions) (forest_of (drop l.node-index l.nodes)))
      ≡ best (needs_at l.needs) (suits_all l.definitions l.conditions) (forest_of l.nodes);
}
