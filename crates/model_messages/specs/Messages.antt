-- The section `message`: message types.
use Rattle.std.specs.Prelude.{ℕ, ◌==◌, Bool, false, List, [], map, Option, Some, None, option_and_then, Result, Ok, Err, if◌then◌else◌}
use Rattle.std.specs.Option.{option_map_or}
use Rattle.toml.specs.Data.{Data, Items, Members, get_member, as_str, as_array}
use Rattle.ale_base.specs.Text.{is_text}
use Rattle.segment_defs.specs.declared.limits.TheConstants.{LONGEST_NAME}
use Rattle.segment_defs.specs.declared.definitions.Definitions.{Definitions}
use Rattle.segment_defs.specs.declared.idoc_type.IdocType.{IdocType}
use Rattle.segment_defs.specs.declared.idoc_type.TypePlace.{TypePlace}
use Rattle.dist_model.specs.declared.kind.Kind.{Kind}
use Rattle.dist_model.specs.declared.limits.TheConstants.{MOST_MESSAGES}
use Rattle.dist_model.specs.declared.message.Message.{Message}
use Rattle.dist_model.specs.declared.message.PostingMode.{PostingMode}
use Rattle.dist_model.specs.declared.message.PostingMode.TheVariants.{Insert, Upsert}
use Rattle.dist_model.specs.Field.{all_fields}
use Rattle.dist_model.specs.Kind.{kind_names}
use Rattle.dist_model.specs.Message.{is_root_enough, message_names, root_segment}
use Rattle.dist_model.specs.Model.{idoc_type_names}
use Rattle.model_keys.specs.declared.finding.Finding.{Finding}
use Rattle.model_keys.specs.declared.finding.Cause.TheVariants.{Wrong}
use Rattle.model_keys.specs.Finding.{◌>>=◌, at, check, required}
use Rattle.model_keys.specs.Each.{each}
use Rattle.model_keys.specs.Keys.{any_list_or_none_at, entry_of, list_or_none_at, name_of, new_name_at, or_else}
use Rattle.model_messages.specs.declared.keys.TheConstants.{IDOCTYPE, INSERT, KIND, MESSAGE, MESSAGE_KEYS, NAME, POINTERS, POSTING, REQUIRED, UPSERT}
use Rattle.model_messages.specs.declared.messages.Unnamed.{Unnamed}
use Rattle.model_keys.specs.Fields.{field_named}
use Rattle.model_messages.specs.Things.{thing_at}

-- whether the root of some entries is of a segment type
abbrev pub has_root : List TypePlace → ℕ → Bool
has_root entries segment = option_map_or (λ root. root == segment) (root_segment entries) false

-- the kind of the objects of a message type, and its place: it has the segment type of the root
unfoldable pub kind_at : List TypePlace → List Kind → Members → Result (ℕ × Kind) Finding
kind_at entries kinds table = do
  found ← thing_at KIND.now (kind_names kinds) kinds table
  if has_root entries found.1.segment then Ok found else Err (at Wrong KIND.now)

-- what a posting does, by its word
abbrev pub posting_named : List ℕ → Option PostingMode
posting_named text =
    if is_text text UPSERT.now then Some Upsert else if is_text text INSERT.now then Some Insert else None

-- the same of what stands there
unfoldable pub posting_of : Data → Result PostingMode Finding
posting_of d = do
  text ← required Wrong POSTING.now (as_str d)
  required Wrong POSTING.now (posting_named text)

-- it makes the object or changes it where the key is absent
unfoldable pub posting_at : Members → Result PostingMode Finding
posting_at table = or_else Upsert posting_of (get_member POSTING.now table)

-- a place that is not that of the key
abbrev pub beside : ℕ → ℕ → Option ℕ
beside key place = if place == key then None else Some place

-- the place of the field of a name among those of the objects of a kind, of which it is not the key
abbrev pub own_field : Definitions → Kind → List ℕ → Option ℕ
own_field definitions kind name = option_and_then (beside kind.key) (field_named (all_fields definitions kind.segment) name)

-- such a field
unfoldable pub own_field_of : Definitions → Kind → Data → Result ℕ Finding
own_field_of definitions kind d = do
  name ← name_of LONGEST_NAME [] d
  required Wrong [] (own_field definitions kind name)

-- the fields of a list at a key
abbrev pub own_fields_of : Definitions → Kind → List ℕ → Items → Result (List ℕ) Finding
own_fields_of definitions kind key ds = each key (λ done d. own_field_of definitions kind d) 0 [] ds

-- the fields without which an object is not posted; none where the key is absent
unfoldable pub required_at : Definitions → Kind → Members → Result (List ℕ) Finding
required_at definitions kind table = do
  ds ← any_list_or_none_at REQUIRED.now table
  own_fields_of definitions kind REQUIRED.now ds

-- the fields whose changes make documents: a list of any length, where an object alone is a document
unfoldable pub pointers_of : Definitions → List TypePlace → Kind → Data → Result (List ℕ) Finding
pointers_of definitions entries kind d = do
  ds ← required Wrong POINTERS.now (as_array d)
  alone ← check Wrong POINTERS.now (is_root_enough entries)
  own_fields_of definitions kind POINTERS.now ds

-- none where the key is absent
unfoldable pub pointers_at : Definitions → List TypePlace → Kind → Members → Result (List ℕ) Finding
pointers_at definitions entries kind table = or_else [] (pointers_of definitions entries kind) (get_member POINTERS.now table)

-- a message type of its name and the rest, for the private functions that read the parts of `message_of`
abbrev pub named : List ℕ → Unnamed → Message
named name of = record { name = name; idoctype = of.idoctype; kind = of.kind; posting = of.posting; required = of.required; pointers = of.pointers }

-- the part of `message_of` behind the name
unfoldable pub message_named : Definitions → List IdocType → List Kind → List ℕ → Members → Result Message Finding
message_named definitions types kinds name table = do
  type ← thing_at IDOCTYPE.now (idoc_type_names types) types table
  kind ← kind_at type.1.segments kinds table
  posting ← posting_at table
  fields ← required_at definitions kind.1 table
  pointers ← pointers_at definitions type.1.segments kind.1 table
  Ok (record { name = name; idoctype = type.0; kind = kind.0; posting = posting; required = fields; pointers = pointers })

-- a message type with a name that none of the others has
unfoldable pub message_of : Definitions → List IdocType → List Kind → List (List ℕ) → Data → Result Message Finding
message_of definitions types kinds names d = do
  table ← entry_of (map (λ key. key.now) MESSAGE_KEYS) d
  name ← new_name_at LONGEST_NAME NAME.now names table
  type ← thing_at IDOCTYPE.now (idoc_type_names types) types table
  kind ← kind_at type.1.segments kinds table
  posting ← posting_at table
  fields ← required_at definitions kind.1 table
  pointers ← pointers_at definitions type.1.segments kind.1 table
  Ok (record { name = name; idoctype = type.0; kind = kind.0; posting = posting; required = fields; pointers = pointers })

-- the message types of a list, each behind those before it
abbrev pub messages_of : Definitions → List IdocType → List Kind → Items → Result (List Message) Finding
messages_of definitions types kinds ds = each MESSAGE.now (λ done d. message_of definitions types kinds (message_names done) d) 0 [] ds

-- no message types where the key is absent
unfoldable pub messages_at : Definitions → List IdocType → List Kind → Members → Result (List Message) Finding
messages_at definitions types kinds table = do
  ds ← list_or_none_at MOST_MESSAGES MESSAGE.now table
  messages_of definitions types kinds ds
