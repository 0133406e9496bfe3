-- Fields of segment types, as a model names them: by their places among those of the newest definition.
use Rattle.std.specs.Prelude.{◌≡◌, ℕ, ◌-◌, ◌<◌, ◌≤◌, List, [], length, slice_get, Some, IsSome}
use Rattle.std.specs.Option.{option_map_or}
use Rattle.ale_base.specs.Blanks.{trimmed}
use Rattle.segment_defs.specs.declared.definitions.Definitions.{Definitions}
use Rattle.segment_defs.specs.declared.field.Field.{Field}
use Rattle.segment_defs.specs.declared.idoc_type.TypePlace.{TypePlace}
use Rattle.segment_defs.specs.declared.version.Version.{Version}
use Rattle.segment_defs.specs.Definitions.{versions_of}
use Rattle.segment_defs.specs.IdocType.{entry_of}

-- the fields of the last of some definitions
abbrev pub last_fields : List Version → List Field
last_fields versions = option_map_or (λ last. last.fields) (slice_get versions (length versions - 1)) []

-- the fields of the first of some definitions
abbrev pub first_fields : List Version → List Field
first_fields versions = option_map_or (λ first. first.fields) (slice_get versions 0) []

-- all fields of a segment type: those of its newest definition
abbrev pub all_fields : Definitions → ℕ → List Field
all_fields definitions segment = last_fields (versions_of definitions segment)

-- a field of a segment type, named by its place
abbrev pub HasField : Definitions → ℕ → ℕ → Type 0
HasField definitions segment field = field < length (all_fields definitions segment)

-- a segment type stands among these entries
abbrev pub HasEntry : List TypePlace → ℕ → Type 0
HasEntry entries segment = IsSome (entry_of entries segment)

-- a field of a segment type that stands among these entries
pub record IsFieldAmong (definitions : Definitions) (entries : List TypePlace) (segment place : ℕ) : Type 0 where
  pub entry : HasEntry entries segment
  pub field : HasField definitions segment place

-- a value of a field is no longer than the field, and has no blanks at its end
pub record IsValue (field : Field) (value : List ℕ) : Type 0 where
  pub fits : length value ≤ field.length
  pub bare : trimmed value ≡ value

-- the same of a field that is named by its place
pub record IsValueOf (definitions : Definitions) (segment place : ℕ) (value : List ℕ) : Type 0 where
  pub field : Field
  pub here : slice_get (all_fields definitions segment) place ≡ Some field
  pub is : IsValue field value

-- a value of a filter on a field is no longer than the field, and where it is blanks alone it is written with no bytes
pub record IsFilterValue (field : Field) (value : List ℕ) : Type 0 where
  pub fits : length value ≤ field.length
  pub blank : trimmed value ≡ [] → value ≡ []

-- the same of a field that is named by its place
pub record IsFilterValueOf (definitions : Definitions) (segment place : ℕ) (value : List ℕ) : Type 0 where
  pub field : Field
  pub here : slice_get (all_fields definitions segment) place ≡ Some field
  pub is : IsFilterValue field value
