-- The pointers that a put notes: one for each field whose value changes, and each message type that lists the field. This
-- project's own.
use Rattle.std.specs.Prelude.{ℕ, ◌&&◌, Bool, false, not, List, [], map, slice_get, if◌then◌else◌}
use Rattle.std.specs.List.{flat_map, list_any}
use Rattle.std.specs.Option.{option_map_or}
use Rattle.ale_base.specs.Blanks.{trimmed}
use Rattle.ale_base.specs.Text.{is_text}
use Rattle.ale_base.specs.declared.change.FieldValue.{FieldValue}
use Rattle.segment_defs.specs.declared.field.Field.{Field}
use Rattle.dist_model.specs.declared.lists.Lists.{Lists}
use Rattle.dist_model.specs.declared.message.Message.{Message}
use Rattle.dist_model.specs.Field.{all_fields}
use Rattle.dist_model.specs.Model.{places_from}
use Rattle.object_store.specs.Objects.{ObjectsOf, value_in}
use Rattle.object_store.specs.Posting.{fields_of}
use Rattle.change_pointers.specs.declared.pointer.Pointer.{Pointer}

-- the name of the field at a place
abbrev pub name_at : List Field → ℕ → List ℕ
name_at fields place = option_map_or (λ field. field.name) (slice_get fields place) []

-- whether one of these places is that of the field of this name
abbrev pub has_field : List Field → List ℕ → List ℕ → Bool
has_field fields name places = list_any (λ place. is_text (name_at fields place) name) places

-- whether a message type is of a kind, and lists a field of it as one whose changes make documents
abbrev pub lists_field : Lists → List ℕ → List ℕ → Message → Bool
lists_field model kind field message =
    option_map_or (λ of_kind. is_text of_kind.name kind && has_field (all_fields model.definitions of_kind.segment) field message.pointers)
    (slice_get model.kinds message.kind) false

-- the message types that do, by their numbers, in order
abbrev pub listing : Lists → List ℕ → List ℕ → List ℕ
listing model kind field = places_from (lists_field model kind field) 0 model.messages

-- whether a value is another one than the field of the object has; all fields of an object that is not there are blank
abbrev pub is_changed : ObjectsOf → List ℕ → List ℕ → FieldValue → Bool
is_changed objects kind key field = not (is_text (value_in field.field (fields_of kind key objects)) (trimmed field.value))

-- a pointer of a message type
abbrev pub pointer_to : List ℕ → List ℕ → List ℕ → ℕ → Pointer
pointer_to kind key field message = record { kind = kind; key = key; field = field; message = message }

-- the pointers for one field that gets a value
abbrev pub noted_for : Lists → ObjectsOf → List ℕ → List ℕ → FieldValue → List Pointer
noted_for model objects kind key field =
    if is_changed objects kind key field then map (pointer_to kind key field.field) (listing model kind field.field) else []

-- the pointers that a put of these fields notes, under a model and over the objects as they were before it
abbrev pub noted_by : Lists → ObjectsOf → List ℕ → List ℕ → List FieldValue → List Pointer
noted_by model objects kind key fields = flat_map (noted_for model objects kind key) fields
