-- Reduced messages: the fields that a reduced message type does not keep are sent as no data. Source: SAP Library, ALE,
-- reduction of message types; which fields become no data is this project's own rule.
use Rattle.std.specs.Prelude.{◌≡◌, ℕ, ◌<◌, ◌==◌, ◌&&◌, Bool, List, [], length, Contains, Some, option_and_then, slice_get, codes, if◌then◌else◌}
use Rattle.std.specs.List.{list_any}
use Rattle.std.specs.Option.{option_map_or}
use Rattle.segment_defs.specs.declared.definitions.Definitions.{Definitions}
use Rattle.dist_model.specs.declared.filter.FieldPlace.{FieldPlace}
use Rattle.dist_model.specs.declared.lists.Lists.{Lists}
use Rattle.dist_model.specs.declared.message.Reduced.{Reduced}
use Rattle.dist_model.specs.declared.outbound.Outbound.{Outbound}
use Rattle.idoc_tree.specs.Forest.{Segment, Forest, map_nodes}
use Rattle.version_reduce.specs.Left.{IsChangedFrom}
use Rattle.version_reduce.specs.Texts.{fields_of, text_at, with_texts}

-- the fields that the reduced message type of a profile keeps; none where the profile has none
abbrev pub kept_fields : Lists → Outbound → List FieldPlace
kept_fields model profile = option_map_or (λ one. one.keep) (option_and_then (slice_get model.reduced) profile.reduced) []

-- whether some fields that are kept name a segment type
abbrev pub are_of : List FieldPlace → ℕ → Bool
are_of keep type = list_any (λ place. place.segment == type) keep

-- whether a field of a segment type is kept
abbrev pub is_kept : List FieldPlace → ℕ → ℕ → Bool
is_kept keep type field = list_any (λ place. place.segment == type && place.field == field) keep

-- the text of a field that has no data
abbrev pub no_data : List ℕ
no_data = codes "/"

-- the text of a field of a segment, or no data where the field is not kept
abbrev pub reduced_text : Definitions → List FieldPlace → Segment → ℕ → List ℕ
reduced_text definitions keep segment field = if is_kept keep segment.type field then text_at definitions segment field else no_data

-- a segment whose type is named: each field of its definition that is not kept has no data, also where it was blank; a
-- segment of a type that is not named is whole
abbrev pub reduced_segment : Definitions → List FieldPlace → Segment → Segment
reduced_segment definitions keep segment =
    if are_of keep segment.type then with_texts definitions (reduced_text definitions keep segment) segment else segment

-- the forest with each segment reduced by the profile's reduced message type
abbrev pub reduced : Lists → Outbound → Forest → Forest
reduced model profile forest = map_nodes (reduced_segment model.definitions (kept_fields model profile)) forest

-- the profile has a reduced message type, and that keeps this field of this segment type
pub record IsKeptField (model : Lists) (profile : Outbound) (type field : ℕ) : Type 0 where
  pub place : ℕ
  pub of_profile : profile.reduced ≡ Some place
  pub one : Reduced
  pub here : slice_get model.reduced place ≡ Some one
  pub among : Contains one.keep (record { segment = type; field = field })

-- What a segment is sent as under the reduced message type of a profile. Where that keeps no field of its type, as it was. Else each
-- field that it keeps has the text that it had, and each other field of the segment's definition has `/`.
pub record IsReducedTo (model : Lists) (profile : Outbound) (old new : Segment) : Type 0 where
  pub type : new.type ≡ old.type
  pub version : new.version ≡ old.version
  pub whole : ((field : ℕ) → IsKeptField model profile old.type field → ⊥) → new ≡ old
  pub kept : (field : ℕ) → IsKeptField model profile old.type field → text_at model.definitions new field ≡ text_at model.definitions old field
  pub others : (field other : ℕ) → IsKeptField model profile old.type other → field < length (fields_of model.definitions old)
      → (IsKeptField model profile old.type field → ⊥) → text_at model.definitions new field ≡ codes "/"

-- no segment goes, and each is sent as the reduced message type of the profile has it
abbrev pub IsReducedFrom : Lists → Outbound → Forest → Forest → Type 0
IsReducedFrom model profile old new = IsChangedFrom (IsReducedTo model profile) old new
