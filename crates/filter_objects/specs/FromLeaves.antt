-- What groups keep, as it is found: one way through the forest a group, from the leaves up. `IsKeptPart` says what it is.
use Rattle.std.specs.Prelude.{ℕ, ◌==◌, ◌&&◌, ◌||◌, Bool, true, false, not, List, [], ◌∷◌, map, filter, nat_le, Option, Some, None, slice_get}
use Rattle.std.specs.List.{list_all, list_any}
use Rattle.std.specs.Option.{option_map_or}
use Rattle.ale_base.specs.Text.{is_text}
use Rattle.segment_defs.specs.declared.idoc_type.TypePlace.{TypePlace}
use Rattle.segment_defs.specs.Definitions.{text_of}
use Rattle.segment_defs.specs.IdocType.{type_above}
use Rattle.dist_model.specs.declared.filter.Filter.{Filter}
use Rattle.dist_model.specs.declared.lists.Lists.{Lists}
use Rattle.dist_model.specs.declared.row.Choice.{Choice}
use Rattle.dist_model.specs.declared.row.Group.{Group}
use Rattle.idoc_tree.specs.Forest.{Segment, Forest, no_trees, tree, roots, count_of}
use Rattle.idoc_tree.specs.Parts.{SegmentSet, none, part, union, with_root}
use Rattle.idoc_tree.specs.steps.Lacking.{is_same}

-- whether a segment is of another type than a filter is on, or has one of some values
abbrev pub has_value : Lists → Segment → List (List ℕ) → Filter → Bool
has_value model segment values filter =
    not (filter.segment == segment.type)
    || list_any (is_text (text_of model.definitions segment.type segment.version filter.field segment.sdata)) values

-- whether a segment meets a condition
abbrev pub meets : Lists → Segment → Choice → Bool
meets model segment choice = option_map_or (has_value model segment choice.values) (slice_get model.filters choice.filter) true

-- whether a segment passes a group
abbrev pub passes : Lists → Group → Segment → Bool
passes model group segment = list_all (meets model segment) group.choices

-- whether an entry is mandatory below a segment type, or at the root level
abbrev pub is_needed : List TypePlace → Option ℕ → TypePlace → Bool
is_needed entries above entry = entry.mandatory && is_same (type_above entries entry) above

-- the entries that are mandatory below a segment type, or at the root level
abbrev pub needs : List TypePlace → Option ℕ → List TypePlace
needs entries above = filter (is_needed entries above) entries

-- whether there are enough roots of the type of an entry
abbrev pub is_enough : Forest → TypePlace → Bool
is_enough forest entry = nat_le entry.min (count_of entry.segment (roots forest))

-- the segments that pass and have enough of those below them in the set, by what is needed below each type
abbrev pub best : (Option ℕ → List TypePlace) → (Segment → Bool) → Forest → SegmentSet
best needs passes no_trees = none
best needs passes (tree root below after) =
    with_root (passes root && list_all (is_enough (part below (best needs passes below))) (needs (Some root.type)))
    (best needs passes below) (best needs passes after)

-- a set, if so
abbrev pub if_enough : Bool → SegmentSet → SegmentSet
if_enough true set = set
if_enough false set = none

-- the same, if the document has enough of it
abbrev pub kept : (Option ℕ → List TypePlace) → (Segment → Bool) → Forest → SegmentSet
kept needs passes forest =
    if_enough (list_all (is_enough (part forest (best needs passes forest))) (needs None)) (best needs passes forest)

-- the segments that at least one of some tests keeps
abbrev pub united : (Option ℕ → List TypePlace) → List (Segment → Bool) → Forest → SegmentSet
united needs [] forest = none
united needs (passes ∷ others) forest = union (kept needs passes forest) (united needs others forest)

-- what some tests keep of a forest: all of it where there is no test
abbrev pub part_by : (Option ℕ → List TypePlace) → List (Segment → Bool) → Forest → Forest
part_by needs [] forest = forest
part_by needs (passes ∷ others) forest = part forest (united needs (passes ∷ others) forest)

-- what the groups of a row keep of a forest
abbrev pub kept_part : Lists → List TypePlace → List Group → Forest → Forest
kept_part model entries groups forest = part_by (needs entries) (map (passes model) groups) forest
