-- Parts of a forest, chosen by place: two trees that are equal are told apart.
use Rattle.std.specs.Prelude.{Bool, true, false}
use Rattle.idoc_tree.specs.Forest.{Forest, no_trees, tree}

-- A set of the segments of a forest, in which each stands with the segment above it. It is told tree by tree: nothing more;
-- the root of the first tree, some below it, and some after it; or nothing of the first tree, and some after it. What a set
-- has where the forest ends counts for nothing.
pub data SegmentSet : Type 0 where
  none : SegmentSet
  takes : (below after : SegmentSet) → SegmentSet
  leaves : (after : SegmentSet) → SegmentSet

-- the part of a forest that is in a set: each segment is as it was, below the same one, in its order
abbrev pub part : Forest → SegmentSet → Forest
part no_trees set = no_trees
part (tree root under behind) none = no_trees
part (tree root under behind) (takes below after) = tree root (part under below) (part behind after)
part (tree root under behind) (leaves after) = part behind after

-- each segment of a forest that is in the first set is in the second
abbrev pub IsWithin : Forest → SegmentSet → SegmentSet → Type 0
IsWithin no_trees set other = Unit {0}
IsWithin (tree root under behind) none other = Unit {0}
IsWithin (tree root under behind) (takes below after) none = ⊥
IsWithin (tree root under behind) (takes below after) (takes b a) = IsWithin under below b × IsWithin behind after a
IsWithin (tree root under behind) (takes below after) (leaves a) = ⊥
IsWithin (tree root under behind) (leaves after) none = IsWithin behind after none
IsWithin (tree root under behind) (leaves after) (takes b a) = IsWithin behind after a
IsWithin (tree root under behind) (leaves after) (leaves a) = IsWithin behind after a

-- the segments that are in at least one of two sets
abbrev pub union : SegmentSet → SegmentSet → SegmentSet
union none other = other
union (takes below after) none = takes below after
union (takes below after) (takes b a) = takes (union below b) (union after a)
union (takes below after) (leaves a) = takes below (union after a)
union (leaves after) none = leaves after
union (leaves after) (takes b a) = takes b (union after a)
union (leaves after) (leaves a) = leaves (union after a)

-- a set with the root of the first tree and some below it, or without that tree, and some after it
abbrev pub with_root : Bool → SegmentSet → SegmentSet → SegmentSet
with_root true below after = takes below after
with_root false below after = leaves after
