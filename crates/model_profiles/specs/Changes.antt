-- What a profile changes of a document: segment types that it removes, and values that it replaces.
use Rattle.std.specs.Prelude.{ℕ, List, [], map, position, Result, Ok}
use Rattle.toml.specs.Data.{Data, Items, Members}
use Rattle.ale_base.specs.Text.{is_text}
use Rattle.segment_defs.specs.declared.definitions.Definitions.{Definitions}
use Rattle.dist_model.specs.declared.limits.TheConstants.{MOST_CONVERSIONS}
use Rattle.dist_model.specs.declared.outbound.Convert.{Convert}
use Rattle.dist_model.specs.Field.{all_fields}
use Rattle.model_keys.specs.declared.finding.Finding.{Finding}
use Rattle.model_keys.specs.declared.finding.Cause.TheVariants.{Unknown}
use Rattle.model_keys.specs.Finding.{◌>>=◌, required}
use Rattle.model_keys.specs.Each.{each}
use Rattle.model_keys.specs.Fields.{field_at}
use Rattle.model_keys.specs.Keys.{any_list_or_none_at, entry_of, list_or_none_at, segment_name_of, segment_type_at}
use Rattle.model_profiles.specs.declared.keys.TheConstants.{CONVERT, CONVERT_KEYS, FIELD, FROM, REMOVE, SEGMENT, TO}
use Rattle.model_profiles.specs.Values.{field_length, field_value_at}

-- the segment type that an element of a list names
unfoldable pub removed_of : List (List ℕ) → Data → Result ℕ Finding
removed_of types d = do
  name ← segment_name_of [] d
  required Unknown [] (position (is_text name) types)

-- the segment types of a list
abbrev pub removes_of : List (List ℕ) → Items → Result (List ℕ) Finding
removes_of types ds = each REMOVE.now (λ done d. removed_of types d) 0 [] ds

-- the segment types at their key, none where it is absent
unfoldable pub removes_at : List (List ℕ) → Members → Result (List ℕ) Finding
removes_at types table = do
  ds ← any_list_or_none_at REMOVE.now table
  removes_of types ds

-- a value of a field of a segment type, and the value that replaces it
unfoldable pub convert_of : List (List ℕ) → Definitions → Data → Result Convert Finding
convert_of types definitions d = do
  table ← entry_of (map (λ key. key.now) CONVERT_KEYS) d
  segment ← segment_type_at SEGMENT.now types table
  field ← field_at FIELD.now (all_fields definitions segment) table
  from ← field_value_at (field_length definitions segment field) FROM.now table
  to ← field_value_at (field_length definitions segment field) TO.now table
  Ok (record { segment = segment; field = field; from = from; to = to })

-- such pairs of values of a list
abbrev pub converts_of : List (List ℕ) → Definitions → Items → Result (List Convert) Finding
converts_of types definitions ds = each CONVERT.now (λ done d. convert_of types definitions d) 0 [] ds

-- none where the key is absent
unfoldable pub converts_at : List (List ℕ) → Definitions → Members → Result (List Convert) Finding
converts_at types definitions table = do
  ds ← list_or_none_at MOST_CONVERSIONS CONVERT.now table
  converts_of types definitions ds
