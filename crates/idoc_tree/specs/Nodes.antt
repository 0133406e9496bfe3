-- The nodes of a document as a forest.
use Rattle.std.specs.Prelude.{List, [], ◌∷◌, map}
use Rattle.idoc_tree.specs.declared.node.Node.{Node}
use Rattle.idoc_tree.specs.declared.node.Node.TheOpen.{Node-F}
use Rattle.idoc_tree.specs.declared.node.Node.TheFolds.{fold-Node}
use Rattle.idoc_tree.specs.Forest.{Segment, Forest, no_trees, tree}

-- a tree: its root, and the forest below it
pub record Tree : Type 0 where
  pub root : Segment
  pub below : Forest

-- trees one after another
abbrev pub in_line : List Tree → Forest
in_line [] = no_trees
in_line (first ∷ others) = tree first.root first.below (in_line others)

-- one node, with the tree of each child in the place of the child
abbrev pub tree_step : Node-F Tree → Tree
tree_step node =
    record {
      root = record { type = node.segment; version = node.version; sdata = node.sdata };
      below = in_line node.children.items;
    }

-- a node with all below it
abbrev pub tree_of : Node → Tree
tree_of = fold-Node Tree tree_step

-- nodes side by side, with all below them
abbrev pub forest_of : List Node → Forest
forest_of nodes = in_line (map tree_of nodes)
