-- A definition of a segment type: its fields, and what they are in the data of a segment.
use Rattle.std.specs.Prelude.{◌≡◌, ℕ, suc, ◌+◌, ◌≤◌, List, [], ◌∷◌, ◌++◌, length, take, drop, map, sum_by, Some, slice_get}
use Rattle.std.specs.List.{AllByRecursion, IsDistinct}
use Rattle.std.specs.Option.{option_map_or}
use Rattle.ale_base.specs.Blanks.{trimmed, padded}
use Rattle.segment_defs.specs.declared.field.Field.{Field}
use Rattle.segment_defs.specs.declared.version.Version.{Version}
use Rattle.ale_base.specs.Text.{is_text}
use Rattle.segment_defs.specs.declared.limits.TheConstants.{MOST_BYTES, MOST_FIELDS}
use Rattle.segment_defs.specs.Name.{IsName, IsSegmentName}

-- how many bytes the fields take together
abbrev pub width_of : List Field → ℕ
width_of fields = sum_by (λ field. field.length) fields

-- the fields stand one behind another, the first of them at this offset
abbrev pub AreLaidOut : ℕ → List Field → Type 0
AreLaidOut offset [] = Unit {0}
AreLaidOut offset (field ∷ fields) = (field.offset ≡ offset) × AreLaidOut (offset + field.length) fields

-- a field has a name, and one or more bytes, not more than all fields together may have
pub record IsField (field : Field) : Type 0 where
  pub named : IsName field.name
  pub least : 1 ≤ field.length
  pub most : field.length ≤ MOST_BYTES

-- the fields of a definition stand side by side, have different names, and neither they nor their bytes are too many
pub record AreFields (fields : List Field) : Type 0 where
  pub each : AllByRecursion IsField fields
  pub laid_out : AreLaidOut 0 fields
  pub apart : IsDistinct is_text (map (λ field. field.name) fields)
  pub few : length fields ≤ MOST_FIELDS
  pub fits : width_of fields ≤ MOST_BYTES

-- a definition has a name and such fields
pub record IsVersion (version : Version) : Type 0 where
  pub named : IsSegmentName version.name
  pub fields : AreFields version.fields

-- the text of a field: its bytes in the data of a segment, without the blanks at their end
abbrev pub field_text : List ℕ → Field → List ℕ
field_text sdata field = trimmed (take field.length (drop field.offset sdata))

-- the data of a segment as a definition has it: cut at its width, without the blanks at the end
abbrev pub fitted : Version → List ℕ → List ℕ
fitted version sdata = trimmed (take (width_of version.fields) sdata)

-- the text of the field at a place from 0; no bytes where there is no such field
abbrev pub text_in : List Field → List ℕ → ℕ → List ℕ
text_in fields sdata place = option_map_or (field_text sdata) (slice_get fields place) []

-- the texts of fields, by their places from 0, one behind another, each with blanks up to the length of its field
abbrev pub texts_joined : List Field → (ℕ → List ℕ) → List ℕ
texts_joined [] texts = []
texts_joined (field ∷ fields) texts = padded field.length (texts 0) ++ texts_joined fields (λ place. texts (suc place))

-- the data of a segment in which each field, by its place from 0, has this text: without the blanks at the end
abbrev pub data_of : List Field → (ℕ → List ℕ) → List ℕ
data_of fields texts = trimmed (texts_joined fields texts)

-- each field, by its place from 0, has room for its text
abbrev pub HaveRoom : List Field → (ℕ → List ℕ) → Type 0
HaveRoom fields texts = (place : ℕ) (field : Field) → slice_get fields place ≡ Some field → length (texts place) ≤ field.length
