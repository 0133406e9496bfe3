-- Values of fields.
use Rattle.std.specs.Prelude.{ℕ, List, [], length, nat_le, slice_get, Option, Result, Ok, Err, if◌then◌else◌}
use Rattle.std.specs.Option.{option_map_or}
use Rattle.toml.specs.Data.{Data, Members, get_member, as_str}
use Rattle.ale_base.specs.Blanks.{trimmed}
use Rattle.ale_base.specs.Text.{is_text}
use Rattle.segment_defs.specs.declared.definitions.Definitions.{Definitions}
use Rattle.dist_model.specs.Field.{all_fields}
use Rattle.model_keys.specs.declared.finding.Finding.{Finding}
use Rattle.model_keys.specs.declared.finding.Cause.TheVariants.{Missing, Wrong}
use Rattle.model_keys.specs.Finding.{◌>>=◌, at, required}
use Rattle.model_keys.specs.Fields.{field_named}

-- how many bytes a field of a segment type has; none where there is no such field
abbrev pub field_length : Definitions → ℕ → ℕ → ℕ
field_length definitions segment field =
    option_map_or (λ field. field.length) (slice_get (all_fields definitions segment) field) 0

-- a value of a field of so many bytes: the text that stands there, without the blanks at its end
unfoldable pub field_value_of : ℕ → List ℕ → Data → Result (List ℕ) Finding
field_value_of width path d = do
  text ← required Wrong path (as_str d)
  if nat_le (length text) width then Ok (trimmed text) else Err (at Wrong path)

-- a text as a value of a filter: it is kept as it is, but blanks alone are the value of a blank field
abbrev pub filter_text : List ℕ → List ℕ
filter_text text = if is_text (trimmed text) [] then [] else text

-- a value of a filter on a field of so many bytes
unfoldable pub filter_value_of : ℕ → Data → Result (List ℕ) Finding
filter_value_of width d = do
  text ← required Wrong [] (as_str d)
  if nat_le (length text) width then Ok (filter_text text) else Err (at Wrong [])

-- the same as `field_value_of` at a key that has to be there
unfoldable pub field_value_at : ℕ → List ℕ → Members → Result (List ℕ) Finding
field_value_at width key table = do
  d ← required Missing key (get_member key table)
  field_value_of width key d

-- the place of the field of a segment type that has a name
abbrev pub field_place : Definitions → ℕ → List ℕ → Option ℕ
field_place definitions segment name = field_named (all_fields definitions segment) name
