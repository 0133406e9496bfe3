-- The section `reduced`: reduced message types.
use Rattle.std.specs.Prelude.{ℕ, ◌+◌, ◌==◌, List, [], ◌++◌, map, take, drop, position, Option, Some, None, option_and_then, nat_eq, Result, Ok, if◌then◌else◌}
use Rattle.std.specs.List.{list_any}
use Rattle.std.specs.Option.{option_map}
use Rattle.toml.specs.Data.{Data, Items, Members, as_str}
use Rattle.ale_base.specs.Text.{is_text}
use Rattle.segment_defs.specs.declared.limits.TheConstants.{LONGEST_NAME}
use Rattle.segment_defs.specs.declared.definitions.Definitions.{Definitions}
use Rattle.segment_defs.specs.declared.idoc_type.IdocType.{IdocType}
use Rattle.segment_defs.specs.declared.idoc_type.TypePlace.{TypePlace}
use Rattle.dist_model.specs.declared.filter.FieldPlace.{FieldPlace}
use Rattle.dist_model.specs.declared.limits.TheConstants.{MOST_KEPT, MOST_REDUCED}
use Rattle.dist_model.specs.declared.message.Message.{Message}
use Rattle.dist_model.specs.declared.message.Reduced.{Reduced}
use Rattle.dist_model.specs.Field.{all_fields}
use Rattle.dist_model.specs.Message.{entries_at, message_names, reduced_names}
use Rattle.dist_model.specs.Model.{type_names}
use Rattle.model_keys.specs.declared.finding.Finding.{Finding}
use Rattle.model_keys.specs.declared.finding.Cause.TheVariants.{Wrong}
use Rattle.model_keys.specs.Finding.{◌>>=◌, required}
use Rattle.model_keys.specs.Each.{each}
use Rattle.model_keys.specs.Keys.{entry_of, list_at, list_or_none_at, new_name_at}
use Rattle.model_messages.specs.declared.keys.TheConstants.{KEEP, MESSAGE, NAME, REDUCED, REDUCED_KEYS}
use Rattle.model_keys.specs.Fields.{field_named}
use Rattle.model_messages.specs.Things.{thing_at}

-- a segment type that is one of some
abbrev pub among : List ℕ → ℕ → Option ℕ
among types segment = if list_any (nat_eq segment) types then Some segment else None

-- the segment type of a name that is one of some
abbrev pub type_among : Definitions → List ℕ → List ℕ → Option ℕ
type_among definitions types name = option_and_then (among types) (position (is_text name) (type_names definitions.types))

-- a field of a segment type, by its name
abbrev pub field_in : Definitions → List ℕ → ℕ → Option FieldPlace
field_in definitions name segment =
    option_map (λ field. record { segment = segment; field = field }) (field_named (all_fields definitions segment) name)

-- the field of one of some segment types, by the names of both
abbrev pub place_named : Definitions → List ℕ → List ℕ → List ℕ → Option FieldPlace
place_named definitions types type name = option_and_then (field_in definitions name) (type_among definitions types type)

-- the same by a text with a dot at this place between the two names
abbrev pub place_split : Definitions → List ℕ → List ℕ → ℕ → Option FieldPlace
place_split definitions types text dot = place_named definitions types (take dot text) (drop (dot + 1) text)

-- the same by the text `TYPE.FIELD`
abbrev pub place_in_text : Definitions → List ℕ → List ℕ → Option FieldPlace
place_in_text definitions types text = option_and_then (place_split definitions types text) (position (λ byte. byte == 46) text)

-- a field that is kept
unfoldable pub kept_of : Definitions → List ℕ → Data → Result FieldPlace Finding
kept_of definitions types d = do
  text ← required Wrong [] (as_str d)
  required Wrong [] (place_in_text definitions types text)

-- the fields of a list
abbrev pub keep_of : Definitions → List ℕ → Items → Result (List FieldPlace) Finding
keep_of definitions types ds = each KEEP.now (λ done d. kept_of definitions types d) 0 [] ds

-- the fields that are kept, each of a segment type of these entries
unfoldable pub keep_at : Definitions → List TypePlace → Members → Result (List FieldPlace) Finding
keep_at definitions entries table = do
  ds ← list_at MOST_KEPT KEEP.now table
  keep_of definitions (map (λ entry. entry.segment) entries) ds

-- a reduced message type with a name that no message type and none of the others has
unfoldable pub reduced_of : Definitions → List IdocType → List Message → List (List ℕ) → Data → Result Reduced Finding
reduced_of definitions types messages names d = do
  table ← entry_of (map (λ key. key.now) REDUCED_KEYS) d
  name ← new_name_at LONGEST_NAME NAME.now names table
  message ← thing_at MESSAGE.now (message_names messages) messages table
  keep ← keep_at definitions (entries_at types message.1.idoctype) table
  Ok (record { name = name; message = message.0; keep = keep })

-- the names of the message types, and behind them those of some reduced ones
abbrev pub names_with : List Message → List Reduced → List (List ℕ)
names_with messages reduced = message_names messages ++ reduced_names reduced

-- the reduced message types of a list, each behind those before it
abbrev pub all_reduced_of : Definitions → List IdocType → List Message → Items → Result (List Reduced) Finding
all_reduced_of definitions types messages ds =
    each REDUCED.now (λ done d. reduced_of definitions types messages (names_with messages done) d) 0 [] ds

-- no reduced message types where the key is absent
unfoldable pub reduced_at : Definitions → List IdocType → List Message → Members → Result (List Reduced) Finding
reduced_at definitions types messages table = do
  ds ← list_or_none_at MOST_REDUCED REDUCED.now table
  all_reduced_of definitions types messages ds
