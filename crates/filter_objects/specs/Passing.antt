-- Which segments pass the groups of a row. The filters are those of SAP's distribution model.
use Rattle.std.specs.Prelude.{◌≡◌, ℕ, List, [], Some, slice_get, Contains}
use Rattle.std.specs.List.{AllByRecursion}
use Rattle.std.specs.Option.{option_map_or}
use Rattle.segment_defs.specs.Definitions.{text_of}
use Rattle.dist_model.specs.declared.filter.Filter.{Filter}
use Rattle.dist_model.specs.declared.lists.Lists.{Lists}
use Rattle.dist_model.specs.declared.row.Choice.{Choice}
use Rattle.dist_model.specs.declared.row.Group.{Group}
use Rattle.idoc_tree.specs.Forest.{Segment}

-- the groups of a row of a model
abbrev pub groups_of : Lists → ℕ → List Group
groups_of model row = option_map_or (λ row. row.group) (slice_get model.rows row) []

-- A segment meets a condition: if it is of the type that the condition's filter is on, the text of the filter's field,
-- without blanks at its end, is one of the condition's values. A field that its definition lacks has the text of no bytes.
abbrev pub Meets : Lists → Segment → Choice → Type 0
Meets model segment choice =
    (filter : Filter) → slice_get model.filters choice.filter ≡ Some filter → filter.segment ≡ segment.type
    → Contains choice.values (text_of model.definitions segment.type segment.version filter.field segment.sdata)

-- a segment passes a group: it meets each condition
abbrev pub Passes : Lists → Group → Segment → Type 0
Passes model group segment = AllByRecursion (Meets model segment) group.choices

-- a segment passes one of some groups
abbrev pub PassesOne : Lists → List Group → Segment → Type 0
PassesOne model groups segment = (group : Group) × Contains groups group × Passes model group segment
