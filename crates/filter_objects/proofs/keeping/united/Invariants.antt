use Rattle.std.proofs.Common.{◌≡◌, drop, map}
use Rattle.idoc_tree.specs.Nodes.{forest_of}
use Rattle.idoc_tree.specs.Parts.{union}
use Rattle.filter_objects.specs.FromLeaves.{passes, united}
use Rattle.filter_objects.specs.steps.Members.{set_of}
use Rattle.filter_objects.specs.steps.Needs.{needs_at}
use Rattle.filter_objects.proofs.keeping.united.Given as goal

abbrev pub invariant-loop-group : goal.invariant-loop-group
invariant-loop-group l =
    union (set_of l.set.items) (united (needs_at l.needs) (map (passes l.model) (drop l.group-index l.groups)) (forest_of l.forest))
    ≡ united (needs_at l.needs) (map (passes l.model) l.groups) (forest_of l.forest)
