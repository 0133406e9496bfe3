-- The section `row`: which messages go from which system to which, and the groups of filter values on them.
use Rattle.std.specs.Prelude.{ℕ, List, [], ◌∷◌, ◌++◌, codes, map, position, slice_get, Result, Ok}
use Rattle.std.specs.Option.{option_map_or}
use Rattle.toml.specs.Data.{Data, Items, Members, no_members, member}
use Rattle.segment_defs.specs.declared.definitions.Definitions.{Definitions}
use Rattle.dist_model.specs.declared.limits.TheConstants.{MOST_GROUPS, MOST_ROWS, MOST_VALUES}
use Rattle.dist_model.specs.declared.filter.Filter.{Filter}
use Rattle.dist_model.specs.declared.row.Choice.{Choice}
use Rattle.dist_model.specs.declared.row.Group.{Group}
use Rattle.dist_model.specs.declared.row.Row.{Row}
use Rattle.dist_model.specs.Filter.{is_filter}
use Rattle.dist_model.specs.Way.{row_way, Way}
use Rattle.model_keys.specs.declared.finding.Finding.{Finding}
use Rattle.model_keys.specs.declared.finding.Cause.TheVariants.{Unknown}
use Rattle.model_keys.specs.Finding.{◌>>=◌, required}
use Rattle.model_keys.specs.Each.{each}
use Rattle.model_keys.specs.Keys.{entry_of, list_of, list_or_none_at, table_of}
use Rattle.model_profiles.specs.declared.keys.TheConstants.{GROUP, ROW, ROW_KEYS}
use Rattle.model_profiles.specs.Values.{field_length, filter_value_of}
use Rattle.model_profiles.specs.Ways.{new_way_at}

-- the values of a list, of a filter on a field of so many bytes
abbrev pub values_of : ℕ → List ℕ → Items → Result (List (List ℕ)) Finding
values_of width key ds = each key (λ done d. filter_value_of width d) 0 [] ds

-- how many bytes the field of a filter has
abbrev pub filter_width : Definitions → List Filter → ℕ → ℕ
filter_width definitions filters place =
    option_map_or (λ filter. field_length definitions filter.segment filter.field) (slice_get filters place) 0

-- the filter of a message type that a key names, by its place
unfoldable pub filter_named : List Filter → ℕ → List ℕ → Result ℕ Finding
filter_named filters message key = required Unknown (codes "." ++ key) (position (is_filter message key) filters)

-- a condition of a group, on the filter that its key names
unfoldable pub choice_of : Definitions → List Filter → ℕ → List ℕ → Data → Result Choice Finding
choice_of definitions filters message key d = do
  place ← filter_named filters message key
  ds ← list_of MOST_VALUES key d
  values ← values_of (filter_width definitions filters place) key ds
  Ok (record { filter = place; values = values })

-- the conditions of a group behind those that are done, key by key
unfoldable pub choices_of : Definitions → List Filter → ℕ → List Choice → Members → Result (List Choice) Finding
choices_of definitions filters message done no_members = Ok done
choices_of definitions filters message done (member key d rest) = do
  choice ← choice_of definitions filters message key d
  choices_of definitions filters message (done ++ choice ∷ []) rest

-- a group of conditions, which have to be met together
unfoldable pub group_of : Definitions → List Filter → ℕ → Data → Result Group Finding
group_of definitions filters message d = do
  table ← table_of d
  choices ← choices_of definitions filters message [] table
  Ok (record { choices = choices })

-- the groups of a list
abbrev pub groups_of : Definitions → List Filter → ℕ → Items → Result (List Group) Finding
groups_of definitions filters message ds = each GROUP.now (λ done d. group_of definitions filters message d) 0 [] ds

-- the groups of a row, none where the key is absent
unfoldable pub groups_at : Definitions → List Filter → ℕ → Members → Result (List Group) Finding
groups_at definitions filters message table = do
  ds ← list_or_none_at MOST_GROUPS GROUP.now table
  groups_of definitions filters message ds

-- the ways of some rows, in order
abbrev pub row_ways : List Row → List Way
row_ways rows = map (λ row. row_way row) rows

-- a row, between systems and of a message type of these names, whose way none of the others has
unfoldable pub row_of : List (List ℕ) → Definitions → List (List ℕ) → List Filter → List Way → Data → Result Row Finding
row_of systems definitions messages filters ways d = do
  table ← entry_of (map (λ key. key.now) ROW_KEYS) d
  way ← new_way_at systems messages ways table
  groups ← groups_at definitions filters way.2 table
  Ok (record { sender = way.0; receiver = way.1; message = way.2; group = groups })

-- the rows of a list, each behind those before it
abbrev pub rows_of : List (List ℕ) → Definitions → List (List ℕ) → List Filter → Items → Result (List Row) Finding
rows_of systems definitions messages filters ds =
    each ROW.now (λ done d. row_of systems definitions messages filters (row_ways done) d) 0 [] ds

-- the rows of a text, none where the key is absent
unfoldable pub rows_at : List (List ℕ) → Definitions → List (List ℕ) → List Filter → Members → Result (List Row) Finding
rows_at systems definitions messages filters table = do
  ds ← list_or_none_at MOST_ROWS ROW.now table
  rows_of systems definitions messages filters ds
