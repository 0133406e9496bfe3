-- Which segments the next segment of a document would stand beside. The open segments of a forest are its last root, the
-- last of those below that one, and so on.
use Rattle.std.specs.Prelude.{ℕ, ◌==◌, ◌||◌, Bool, false, nat_lt, List, [], ◌∷◌, Option, Some, None, if◌then◌else◌}
use Rattle.segment_defs.specs.declared.idoc_type.TypePlace.{TypePlace}
use Rattle.segment_defs.specs.IdocType.{place_in}
use Rattle.idoc_tree.specs.Forest.{Segment, Forest, no_trees, tree, is_bare, roots}

-- the segments right below the open one of a type
abbrev pub children_of_open : ℕ → Forest → Option (List Segment)
children_of_open type no_trees = None
children_of_open type (tree root below after) =
    if is_bare after then (if root.type == type then Some (roots below) else children_of_open type below)
    else children_of_open type after

-- the siblings that the next segment would have below the open segment of a type, or as a root
abbrev pub siblings : Option ℕ → Forest → Option (List Segment)
siblings None forest = Some (roots forest)
siblings (Some above) forest = children_of_open above forest

-- one of some segments is of a later type than the one at this place
abbrev pub has_later : List TypePlace → ℕ → List Segment → Bool
has_later entries place [] = false
has_later entries place (segment ∷ segments) = nat_lt place (place_in entries segment.type) || has_later entries place segments
