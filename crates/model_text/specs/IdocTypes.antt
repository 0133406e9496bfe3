-- The section `idoctype`: IDoc types over the segment types.
use Rattle.std.specs.Prelude.{ℕ, List, [], map, Result, Ok}
use Rattle.toml.specs.Data.{Data, Items, Members}
use Rattle.segment_defs.specs.declared.limits.TheConstants.{LONGEST_NAME}
use Rattle.segment_defs.specs.declared.idoc_type.IdocType.{IdocType}
use Rattle.dist_model.specs.declared.limits.TheConstants.{MOST_ENTRIES, MOST_IDOC_TYPES}
use Rattle.dist_model.specs.Model.{idoc_type_names}
use Rattle.model_keys.specs.declared.finding.Finding.{Finding}
use Rattle.model_keys.specs.Finding.{◌>>=◌}
use Rattle.model_keys.specs.Each.{each}
use Rattle.model_keys.specs.Keys.{entry_of, list_or_none_at, new_name_at, some_list_at}
use Rattle.model_text.specs.declared.keys.TheConstants.{IDOCTYPE, IDOCTYPE_KEYS, NAME, SEGMENT}
use Rattle.model_text.specs.Entries.{entries_of}

-- an IDoc type over these segment types, with a name that none of the others has
unfoldable pub idoc_type_of : List (List ℕ) → List (List ℕ) → Data → Result IdocType Finding
idoc_type_of types names d = do
  table ← entry_of (map (λ key. key.now) IDOCTYPE_KEYS) d
  name ← new_name_at LONGEST_NAME NAME.now names table
  ds ← some_list_at MOST_ENTRIES SEGMENT.now table
  segments ← entries_of types ds
  Ok (record { name = name; segments = segments })

-- the IDoc types of a list, each behind those before it
abbrev pub idoc_types_of : List (List ℕ) → Items → Result (List IdocType) Finding
idoc_types_of types ds = each IDOCTYPE.now (λ done d. idoc_type_of types (idoc_type_names done) d) 0 [] ds

-- no IDoc types where the key is absent
unfoldable pub idoc_types_at : List (List ℕ) → Members → Result (List IdocType) Finding
idoc_types_at types table = do
  ds ← list_or_none_at MOST_IDOC_TYPES IDOCTYPE.now table
  idoc_types_of types ds
