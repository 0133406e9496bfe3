-- The section `kind`: kinds of business objects.
use Rattle.std.specs.Prelude.{ℕ, List, [], map, Result, Ok}
use Rattle.toml.specs.Data.{Data, Items, Members}
use Rattle.segment_defs.specs.declared.limits.TheConstants.{LONGEST_NAME}
use Rattle.segment_defs.specs.declared.definitions.Definitions.{Definitions}
use Rattle.segment_defs.specs.Definitions.{versions_of}
use Rattle.dist_model.specs.declared.kind.Kind.{Kind}
use Rattle.dist_model.specs.declared.limits.TheConstants.{MOST_KINDS}
use Rattle.dist_model.specs.Field.{first_fields}
use Rattle.dist_model.specs.Kind.{kind_names}
use Rattle.dist_model.specs.Model.{type_names}
use Rattle.model_keys.specs.declared.finding.Finding.{Finding}
use Rattle.model_keys.specs.declared.finding.Cause.TheVariants.{Wrong}
use Rattle.model_keys.specs.Finding.{◌>>=◌, required}
use Rattle.model_keys.specs.Each.{each}
use Rattle.model_keys.specs.Keys.{entry_of, list_or_none_at, name_at, new_name_at, segment_type_at}
use Rattle.model_messages.specs.declared.keys.TheConstants.{KEY, KIND, KIND_KEYS, NAME, SEGMENT}
use Rattle.model_keys.specs.Fields.{field_named}

-- the key of the objects of a kind: a field of the first definition of the segment type, so that each definition has it
unfoldable pub key_at : Definitions → ℕ → Members → Result ℕ Finding
key_at definitions segment table = do
  name ← name_at LONGEST_NAME KEY.now table
  required Wrong KEY.now (field_named (first_fields (versions_of definitions segment)) name)

-- a kind with a name that none of the others has
unfoldable pub kind_of : Definitions → List (List ℕ) → Data → Result Kind Finding
kind_of definitions names d = do
  table ← entry_of (map (λ key. key.now) KIND_KEYS) d
  name ← new_name_at LONGEST_NAME NAME.now names table
  segment ← segment_type_at SEGMENT.now (type_names definitions.types) table
  key ← key_at definitions segment table
  Ok (record { name = name; segment = segment; key = key })

-- the kinds of a list, each behind those before it
abbrev pub kinds_of : Definitions → Items → Result (List Kind) Finding
kinds_of definitions ds = each KIND.now (λ done d. kind_of definitions (kind_names done) d) 0 [] ds

-- no kinds where the key is absent
unfoldable pub kinds_at : Definitions → Members → Result (List Kind) Finding
kinds_at definitions table = do
  ds ← list_or_none_at MOST_KINDS KIND.now table
  kinds_of definitions ds
