-- An IDoc type: a hierarchy of segment types, as a list of entries in preorder.
use Rattle.std.specs.Prelude.{◌≡◌, ℕ, suc, ◌<◌, ◌≤◌, ◌==◌, true, false, List, [], ◌∷◌, length, map, nat_eq, Option, Some, None, option_and_then, slice_get}
use Rattle.std.specs.Prelude.{Contains, if◌then◌else◌}
use Rattle.std.specs.List.{AllByRecursion, IsDistinct}
use Rattle.std.specs.Option.{option_map, ForSome}
use Rattle.segment_defs.specs.declared.definitions.Definitions.{Definitions}
use Rattle.segment_defs.specs.declared.idoc_type.TypePlace.{TypePlace}
use Rattle.segment_defs.specs.declared.idoc_type.IdocType.{IdocType}
use Rattle.segment_defs.specs.declared.limits.TheConstants.{MOST_LEVELS, MOST_TIMES}
use Rattle.segment_defs.specs.Name.{IsName}

-- the place of the first entry of a segment type; the number of entries where it has none
abbrev pub place_in : List TypePlace → ℕ → ℕ
place_in [] segment = 0
place_in (entry ∷ entries) segment = if entry.segment == segment then 0 else suc (place_in entries segment)

-- the entry of a segment type
abbrev pub entry_of : List TypePlace → ℕ → Option TypePlace
entry_of entries segment = slice_get entries (place_in entries segment)

-- the segment type above an entry; none at the root level, and where the parent is no place of the list
abbrev pub type_above : List TypePlace → TypePlace → Option ℕ
type_above entries entry = option_and_then (λ place. option_map (λ above. above.segment) (slice_get entries place)) entry.parent

-- the segment type above one that stands in the IDoc type, or none at the root level
abbrev pub parent_of : List TypePlace → ℕ → Option (Option ℕ)
parent_of entries segment = option_map (type_above entries) (entry_of entries segment)

-- the part of a path from an entry upwards
abbrev pub upward_from : ℕ → List ℕ → List ℕ
upward_from place [] = []
upward_from place (other ∷ path) = if other == place then other ∷ path else upward_from place path

-- the path of an entry, from itself upwards, behind that of the entry before it
abbrev pub path_of : ℕ → Option ℕ → List ℕ → List ℕ
path_of place None before = place ∷ []
path_of place (Some parent) before = place ∷ upward_from parent before

-- the path of the last of some entries, where the first stands at this place, and the path of the entry before it is given
abbrev pub path_behind : ℕ → List ℕ → List TypePlace → List ℕ
path_behind place before [] = before
path_behind place before (entry ∷ entries) = path_behind (suc place) (path_of place entry.parent before) entries

-- the level of an entry that is open behind some entries, from 1 at the root level: it is the last of them or one above
-- that; 0 where it is not open
abbrev pub open_level : ℕ → List TypePlace → ℕ
open_level place entries = length (upward_from place (path_behind 0 [] entries))

-- The entries from this place on are a preorder behind the path of the entry before them: the parent of each is the
-- previous entry or one above it, or it stands at the root level. There are at most `MOST_LEVELS` levels.
abbrev pub IsPreorder : ℕ → List ℕ → List TypePlace → Type 0
IsPreorder place before [] = Unit {0}
IsPreorder place before (entry ∷ entries) =
    ForSome entry.parent (Contains before)
    × (length (path_of place entry.parent before) ≤ MOST_LEVELS)
    × IsPreorder (suc place) (path_of place entry.parent before) entries

-- An entry is of one of the segment types. Below one node of its parent it occurs at most `max` times, and at least
-- `min` times if it is mandatory. `min` is from 1 to `max`, and 1 where the entry is optional.
pub record IsEntry (definitions : Definitions) (entry : TypePlace) : Type 0 where
  pub known : entry.segment < length definitions.types
  pub least : 1 ≤ entry.min
  pub ordered : entry.min ≤ entry.max
  pub most : entry.max ≤ MOST_TIMES
  pub optional : entry.mandatory ≡ false → entry.min ≡ 1

-- the first entry stands at the root level, is mandatory, and occurs once in each document
abbrev pub IsRootEntry : Option TypePlace → Type 0
IsRootEntry None = ⊥
IsRootEntry (Some entry) = (entry.parent ≡ None) × (entry.mandatory ≡ true) × (entry.min ≡ 1) × (entry.max ≡ 1)

-- an IDoc type over these segment types
pub record IsIdocType (definitions : Definitions) (type : IdocType) : Type 0 where
  pub named : IsName type.name
  pub root : IsRootEntry (slice_get type.segments 0)
  pub each : AllByRecursion (IsEntry definitions) type.segments
  pub apart : IsDistinct nat_eq (map (λ entry. entry.segment) type.segments)
  pub preorder : IsPreorder 0 [] type.segments
