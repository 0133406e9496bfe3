-- The section `filter`: filters of message types.
use Rattle.std.specs.Prelude.{ℕ, List, [], map, is_some, Result, Ok, Err, if◌then◌else◌}
use Rattle.std.specs.List.{list_any}
use Rattle.toml.specs.Data.{Data, Items, Members}
use Rattle.segment_defs.specs.declared.limits.TheConstants.{LONGEST_NAME}
use Rattle.segment_defs.specs.declared.definitions.Definitions.{Definitions}
use Rattle.segment_defs.specs.declared.idoc_type.IdocType.{IdocType}
use Rattle.segment_defs.specs.declared.idoc_type.TypePlace.{TypePlace}
use Rattle.segment_defs.specs.IdocType.{entry_of as entry_of_type}
use Rattle.dist_model.specs.declared.filter.Filter.{Filter}
use Rattle.dist_model.specs.declared.limits.TheConstants.{MOST_FILTERS}
use Rattle.dist_model.specs.declared.message.Message.{Message}
use Rattle.dist_model.specs.Field.{all_fields}
use Rattle.dist_model.specs.Filter.{is_filter}
use Rattle.dist_model.specs.Message.{entries_at, message_names}
use Rattle.dist_model.specs.Model.{type_names}
use Rattle.model_keys.specs.declared.finding.Finding.{Finding}
use Rattle.model_keys.specs.declared.finding.Cause.TheVariants.{Twice, Wrong}
use Rattle.model_keys.specs.Finding.{◌>>=◌, at}
use Rattle.model_keys.specs.Each.{each}
use Rattle.model_keys.specs.Keys.{entry_of, list_or_none_at, name_at, segment_type_at}
use Rattle.model_messages.specs.declared.keys.TheConstants.{FIELD, FILTER, FILTER_KEYS, MESSAGE, NAME, SEGMENT}
use Rattle.model_keys.specs.Fields.{field_at}
use Rattle.model_messages.specs.Things.{thing_at}

-- a name, and a message type with its place: no filter so far is that of the message type with the name
unfoldable pub head_at : List Message → List Filter → Members → Result (List ℕ × (ℕ × Message)) Finding
head_at messages filters table = do
  name ← name_at LONGEST_NAME NAME.now table
  message ← thing_at MESSAGE.now (message_names messages) messages table
  if list_any (is_filter message.0 name) filters then Err (at Twice NAME.now) else Ok (name, message)

-- a segment type that stands among some entries
unfoldable pub type_among_at : Definitions → List TypePlace → Members → Result ℕ Finding
type_among_at definitions entries table = do
  segment ← segment_type_at SEGMENT.now (type_names definitions.types) table
  if is_some (entry_of_type entries segment) then Ok segment else Err (at Wrong SEGMENT.now)

-- one more filter behind some
unfoldable pub filter_of : Definitions → List IdocType → List Message → List Filter → Data → Result Filter Finding
filter_of definitions types messages filters d = do
  table ← entry_of (map (λ key. key.now) FILTER_KEYS) d
  head ← head_at messages filters table
  segment ← type_among_at definitions (entries_at types head.1.1.idoctype) table
  field ← field_at FIELD.now (all_fields definitions segment) table
  Ok (record { name = head.0; message = head.1.0; segment = segment; field = field })

-- the filters of a list, each behind those before it
abbrev pub filters_of : Definitions → List IdocType → List Message → Items → Result (List Filter) Finding
filters_of definitions types messages ds = each FILTER.now (λ done d. filter_of definitions types messages done d) 0 [] ds

-- no filters where the key is absent
unfoldable pub filters_at : Definitions → List IdocType → List Message → Members → Result (List Filter) Finding
filters_at definitions types messages table = do
  ds ← list_or_none_at MOST_FILTERS FILTER.now table
  filters_of definitions types messages ds
