-- Rows: which messages go from which system to which, and the groups of filter values on them.
use Rattle.std.specs.Prelude.{◌≡◌, ℕ, ◌≤◌, List, length, map, Some, slice_get}
use Rattle.std.specs.List.{AllByRecursion, IsDistinct}
use Rattle.segment_defs.specs.declared.definitions.Definitions.{Definitions}
use Rattle.dist_model.specs.declared.limits.TheConstants.{MOST_GROUPS, MOST_ROWS, MOST_VALUES}
use Rattle.dist_model.specs.declared.filter.Filter.{Filter}
use Rattle.dist_model.specs.declared.row.Choice.{Choice}
use Rattle.dist_model.specs.declared.row.Group.{Group}
use Rattle.dist_model.specs.declared.row.Row.{Row}
use Rattle.dist_model.specs.Field.{IsFilterValueOf}
use Rattle.dist_model.specs.Way.{IsWay, row_way, same_way}

-- a condition is on a filter of a message type, and has values of the filter, not too many
pub record IsChoice (definitions : Definitions) (filters : List Filter) (message : ℕ) (choice : Choice) : Type 0 where
  pub filter : Filter
  pub known : slice_get filters choice.filter ≡ Some filter
  pub own : filter.message ≡ message
  pub few : length choice.values ≤ MOST_VALUES
  pub values : AllByRecursion (IsFilterValueOf definitions filter.segment filter.field) choice.values

-- a group has such conditions
abbrev pub IsGroup : Definitions → List Filter → ℕ → Group → Type 0
IsGroup definitions filters message group = AllByRecursion (IsChoice definitions filters message) group.choices

-- a row has a way, and groups on its message type, not too many
pub record IsRow (systems messages : ℕ) (definitions : Definitions) (filters : List Filter) (row : Row) : Type 0 where
  pub way : IsWay systems messages (row_way row)
  pub few : length row.group ≤ MOST_GROUPS
  pub groups : AllByRecursion (IsGroup definitions filters row.message) row.group

-- not too many rows, each with a way of its own
pub record AreRows (systems messages : ℕ) (definitions : Definitions) (filters : List Filter) (rows : List Row) : Type 0 where
  pub few : length rows ≤ MOST_ROWS
  pub each : AllByRecursion (IsRow systems messages definitions filters) rows
  pub apart : IsDistinct same_way (map (λ row. row_way row) rows)
