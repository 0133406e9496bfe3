-- The segment types of a landscape, and what a name stands for among them.
use Rattle.std.specs.Prelude.{◌≡◌, ℕ, suc, ◌-◌, ◌≤◌, ◌⊎◌, List, [], ◌∷◌, length, map, Option, Some, None, option_and_then, slice_get, IsSome, if◌then◌else◌}
use Rattle.std.specs.List.{AllByRecursion, IsDistinct, flat_map}
use Rattle.std.specs.Option.{option_map, option_map_or}
use Rattle.segment_defs.specs.declared.version.Version.{Version}
use Rattle.segment_defs.specs.declared.segment_type.SegmentType.{SegmentType}
use Rattle.segment_defs.specs.declared.definitions.Definitions.{Definitions}
use Rattle.segment_defs.specs.declared.limits.TheConstants.{MOST_TYPES}
use Rattle.ale_base.specs.Text.{is_text}
use Rattle.segment_defs.specs.Version.{field_text}
use Rattle.segment_defs.specs.SegmentType.{IsSegmentType}

-- the name of a segment type, and those of its definitions
abbrev pub names_of : SegmentType → List (List ℕ)
names_of type = type.name ∷ map (λ version. version.name) type.versions

-- not too many segment types, no name twice among all of types and definitions
pub record AreDefinitions (definitions : Definitions) : Type 0 where
  pub few : length definitions.types ≤ MOST_TYPES
  pub each : AllByRecursion IsSegmentType definitions.types
  pub apart : IsDistinct is_text (flat_map names_of definitions.types)

-- the definitions of a segment type, given its number; none where there is no such type
abbrev pub versions_of : Definitions → ℕ → List Version
versions_of definitions segment = option_map_or (λ type. type.versions) (slice_get definitions.types segment) []

-- a definition, given its number and that of its segment type
abbrev pub version_of : Definitions → ℕ → ℕ → Option Version
version_of definitions segment version = slice_get (versions_of definitions segment) version

-- there is such a definition of such a segment type
abbrev pub HasVersion : Definitions → ℕ → ℕ → Type 0
HasVersion definitions segment version = IsSome (version_of definitions segment version)

-- A name stands for this definition of this segment type: the definition has the name, or the type has it, and then
-- this is its newest one.
pub record StandsFor (definitions : Definitions) (name : List ℕ) (segment version : ℕ) : Type 0 where
  pub type : SegmentType
  pub type_at : slice_get definitions.types segment ≡ Some type
  pub definition : Version
  pub definition_at : slice_get type.versions version ≡ Some definition
  pub named : (definition.name ≡ name) ⊎ ((type.name ≡ name) × (suc version ≡ length type.versions))

-- the place of the first definition of a name
abbrev pub version_named : List ℕ → List Version → Option ℕ
version_named name [] = None
version_named name (version ∷ versions) =
    if is_text version.name name then Some 0 else option_map suc (version_named name versions)

-- the place of the definition that a name stands for in one segment type: the last one for the type's own name
abbrev pub named_in : List ℕ → SegmentType → Option ℕ
named_in name type =
    if is_text type.name name then Some (length type.versions - 1) else version_named name type.versions

-- a definition of the first segment type, or what is found among the others
abbrev pub first_found : Option ℕ → Option (ℕ × ℕ) → Option (ℕ × ℕ)
first_found None others = option_map (λ found. (suc found.0, found.1)) others
first_found (Some version) others = Some (0, version)

-- the segment type and the definition that a name stands for, by their numbers
abbrev pub found_in : List ℕ → List SegmentType → Option (ℕ × ℕ)
found_in name [] = None
found_in name (type ∷ types) = first_found (named_in name type) (found_in name types)

-- the text of a field in the data of a segment; no bytes where this definition has no such field
abbrev pub text_of : Definitions → ℕ → ℕ → ℕ → List ℕ → List ℕ
text_of definitions segment version field sdata =
    option_map_or (field_text sdata)
    (option_and_then (λ definition. slice_get definition.fields field) (version_of definitions segment version)) []
