-- Message types, and those that are reduced.
use Rattle.std.specs.Prelude.{◌≡◌, ℕ, ◌<◌, ◌≤◌, ◌==◌, ◌&&◌, Bool, true, not, List, [], ◌∷◌, ◌++◌, length, map, Option, Some, None, slice_get, IsTrue}
use Rattle.std.specs.List.{AllByRecursion, IsDistinct, list_all}
use Rattle.std.specs.Option.{option_map, option_map_or}
use Rattle.ale_base.specs.Text.{is_text}
use Rattle.segment_defs.specs.declared.definitions.Definitions.{Definitions}
use Rattle.segment_defs.specs.declared.idoc_type.IdocType.{IdocType}
use Rattle.segment_defs.specs.declared.idoc_type.TypePlace.{TypePlace}
use Rattle.segment_defs.specs.Name.{IsName}
use Rattle.dist_model.specs.declared.limits.TheConstants.{MOST_KEPT, MOST_MESSAGES, MOST_REDUCED}
use Rattle.dist_model.specs.declared.filter.FieldPlace.{FieldPlace}
use Rattle.dist_model.specs.declared.kind.Kind.{Kind}
use Rattle.dist_model.specs.declared.message.Message.{Message}
use Rattle.dist_model.specs.declared.message.Reduced.{Reduced}
use Rattle.dist_model.specs.Field.{HasField, IsFieldAmong}

-- the segment type of the first of some entries, which is that of the root
abbrev pub root_segment : List TypePlace → Option ℕ
root_segment entries = option_map (λ root. root.segment) (slice_get entries 0)

-- whether an entry stands at the root level, or has the first entry as its parent
abbrev pub is_near_root : Option ℕ → Bool
is_near_root None = true
is_near_root (Some parent) = parent == 0

-- whether the root is the only mandatory entry at the root level and below itself: then an object alone is a document
abbrev pub is_root_enough : List TypePlace → Bool
is_root_enough [] = true
is_root_enough (root ∷ entries) = list_all (λ entry. not (entry.mandatory && is_near_root entry.parent)) entries

-- a field of the objects of a kind that is not their key
pub record IsOwnField (definitions : Definitions) (kind : Kind) (place : ℕ) : Type 0 where
  pub field : HasField definitions kind.segment place
  pub other : place ≡ kind.key → ⊥

-- A message type has a name. Its kind has the segment type of the root of its IDoc type. The fields that are required, and
-- those whose changes make documents, are such fields of the kind; where there are some of the latter, an object alone is
-- a document.
pub record IsMessage (definitions : Definitions) (types : List IdocType) (kinds : List Kind) (message : Message) : Type 0 where
  pub named : IsName message.name
  pub type : IdocType
  pub typed : slice_get types message.idoctype ≡ Some type
  pub kind : Kind
  pub of_kind : slice_get kinds message.kind ≡ Some kind
  pub root : root_segment type.segments ≡ Some kind.segment
  pub required : AllByRecursion (IsOwnField definitions kind) message.required
  pub pointers : AllByRecursion (IsOwnField definitions kind) message.pointers
  pub gathered : 1 ≤ length message.pointers → IsTrue (is_root_enough type.segments)

-- the names of the message types, in order
abbrev pub message_names : List Message → List (List ℕ)
message_names messages = map (λ message. message.name) messages

-- not too many message types, each with a name of its own
pub record AreMessages (definitions : Definitions) (types : List IdocType) (kinds : List Kind) (messages : List Message) : Type 0 where
  pub few : length messages ≤ MOST_MESSAGES
  pub each : AllByRecursion (IsMessage definitions types kinds) messages
  pub apart : IsDistinct is_text (message_names messages)

-- the entries of the IDoc type at a place
abbrev pub entries_at : List IdocType → ℕ → List TypePlace
entries_at types place = option_map_or (λ type. type.segments) (slice_get types place) []

-- the entries of the IDoc type of a message type
abbrev pub message_entries : List IdocType → List Message → ℕ → List TypePlace
message_entries types messages message = option_map_or (λ m. entries_at types m.idoctype) (slice_get messages message) []

-- a field of a segment type of a message type
abbrev pub IsPlaceOf : Definitions → List IdocType → List Message → ℕ → FieldPlace → Type 0
IsPlaceOf definitions types messages message place = IsFieldAmong definitions (message_entries types messages message) place.segment place.field

-- a reduced message type has a name, and keeps fields of a message type, not too many
pub record IsReduced (definitions : Definitions) (types : List IdocType) (messages : List Message) (reduced : Reduced) : Type 0 where
  pub named : IsName reduced.name
  pub basic : reduced.message < length messages
  pub few : length reduced.keep ≤ MOST_KEPT
  pub keep : AllByRecursion (IsPlaceOf definitions types messages reduced.message) reduced.keep

-- the names of the reduced message types, in order
abbrev pub reduced_names : List Reduced → List (List ℕ)
reduced_names reduced = map (λ one. one.name) reduced

-- not too many reduced message types, each with a name of its own, which no message type has
pub record AreReduced (definitions : Definitions) (types : List IdocType) (messages : List Message) (reduced : List Reduced) : Type 0 where
  pub few : length reduced ≤ MOST_REDUCED
  pub each : AllByRecursion (IsReduced definitions types messages) reduced
  pub apart : IsDistinct is_text (message_names messages ++ reduced_names reduced)
