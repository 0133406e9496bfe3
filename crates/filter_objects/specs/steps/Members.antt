-- Sets of the nodes of a forest in memory: one step on the way to `best` and `united` of `FromLeaves`.
use Rattle.std.specs.Prelude.{Bool, true, false, List, [], ◌∷◌, map}
use Rattle.idoc_tree.specs.Parts.{SegmentSet, none, takes, leaves, union, with_root}
use Rattle.filter_objects.specs.declared.member.Member.{Member}
use Rattle.filter_objects.specs.declared.member.Member.TheOpen.{Member-F}
use Rattle.filter_objects.specs.declared.member.Member.TheFolds.{fold-Member}

-- whether a node is in a set, and which of those below it are if it is
pub record Seen : Type 0 where
  pub kept : Bool
  pub below : SegmentSet

-- nodes side by side, as a set
abbrev pub in_line : List Seen → SegmentSet
in_line [] = none
in_line (first ∷ others) = with_root first.kept first.below (in_line others)

-- one node, with the set of those below it in the place of their members
abbrev pub member_step : Member-F Seen → Seen
member_step member = record { kept = member.kept; below = in_line member.below.items }

-- a node in a set, with those below it
abbrev pub member_of : Member → Seen
member_of = fold-Member Seen member_step

-- nodes side by side in a set, with those below them
abbrev pub set_of : List Member → SegmentSet
set_of members = in_line (map member_of members)

-- a set, and another one for the trees behind it
abbrev pub followed : SegmentSet → SegmentSet → SegmentSet
followed none others = others
followed (takes below after) others = takes below (followed after others)
followed (leaves after) others = leaves (followed after others)

-- a node in one of two sets, with those below it that are
abbrev pub seen_either : Bool → Bool → SegmentSet → SegmentSet → Seen
seen_either true true below other = record { kept = true; below = union below other }
seen_either true false below other = record { kept = true; below = below }
seen_either false true below other = record { kept = true; below = other }
seen_either false false below other = record { kept = false; below = none }

-- the same of two nodes that are seen
abbrev pub seen_union : Seen → Seen → Seen
seen_union one other = seen_either one.kept other.kept one.below other.below
