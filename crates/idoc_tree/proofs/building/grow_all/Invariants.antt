use Rattle.std.proofs.Common.{take}
use Rattle.idoc_tree.specs.Nodes.{forest_of}
use Rattle.idoc_tree.specs.Builds.{SpellsInOrder}
use Rattle.idoc_tree.proofs.building.grow_all.Given as goal

abbrev pub invariant-loop-index : goal.invariant-loop-index
invariant-loop-index l = SpellsInOrder l.definitions l.ty.segments (take l.index l.lines) (forest_of l.forest.items)
