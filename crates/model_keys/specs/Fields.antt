-- Fields by their names.
use Rattle.std.specs.Prelude.{ℕ, List, map, position, Option, Result}
use Rattle.toml.specs.Data.{Members}
use Rattle.ale_base.specs.Text.{is_text}
use Rattle.segment_defs.specs.declared.field.Field.{Field}
use Rattle.segment_defs.specs.declared.limits.TheConstants.{LONGEST_NAME}
use Rattle.model_keys.specs.declared.finding.Cause.TheVariants.{Unknown}
use Rattle.model_keys.specs.declared.finding.Finding.{Finding}
use Rattle.model_keys.specs.Finding.{◌>>=◌, required}
use Rattle.model_keys.specs.Keys.{name_at}

-- the place of the field of a name among some
abbrev pub field_named : List Field → List ℕ → Option ℕ
field_named fields name = position (λ field. is_text name field.name) fields

-- the names of some fields, in order
abbrev pub field_names : List Field → List (List ℕ)
field_names fields = map (λ field. field.name) fields

-- the place of the field, among some, that is named at a key
unfoldable pub field_at : List ℕ → List Field → Members → Result ℕ Finding
field_at key fields table = do
  name ← name_at LONGEST_NAME key table
  required Unknown key (field_named fields name)
