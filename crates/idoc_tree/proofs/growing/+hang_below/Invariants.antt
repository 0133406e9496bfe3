use Rattle.std.proofs.Common.{length}
use Rattle.idoc_tree.specs.Forest.{preorder}
use Rattle.idoc_tree.specs.Nodes.{forest_of}
use Rattle.idoc_tree.proofs.growing.+hang_below.Given as goal

abbrev pub decreases-hang_below : goal.decreases-hang_below
decreases-hang_below l = length (preorder (forest_of l.nodes.now.items))
