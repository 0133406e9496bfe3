-- What is mandatory below each segment type, in tables: one step on the way to `needs` of `FromLeaves`.
use Rattle.std.specs.Prelude.{◌≡◌, ℕ, ◌<◌, ◌==◌, List, [], ◌∷◌, ◌++◌, length, filter, Option, Some, None, slice_get, if◌then◌else◌}
use Rattle.std.specs.Option.{option_map, option_map_or}
use Rattle.segment_defs.specs.declared.idoc_type.TypePlace.{TypePlace}
use Rattle.segment_defs.specs.IdocType.{type_above}
use Rattle.filter_objects.specs.declared.needs.Needs.{Needs}
use Rattle.filter_objects.specs.FromLeaves.{is_needed, needs}

-- what the tables have for a type, or for the root level
abbrev pub needs_at : Needs → Option ℕ → List TypePlace
needs_at needs None = needs.roots
needs_at needs (Some type) = option_map_or (λ list. list) (slice_get needs.below type) []

-- the segment type below which an entry is mandatory
abbrev pub needed_below : List TypePlace → TypePlace → Option ℕ
needed_below entries entry = if entry.mandatory then type_above entries entry else None

-- one list for each of so many types: those of some entries that are mandatory below it
pub record AreBelow (entries : List TypePlace) (types : ℕ) (some : List TypePlace) (lists : List (List TypePlace)) : Type 0 where
  pub long : length lists ≡ types
  pub each : (type : ℕ) → type < types → slice_get lists type ≡ Some (filter (is_needed entries (Some type)) some)

-- an entry is behind the others in the list at a place, if there is that list
pub record IsAdded (place : ℕ) (entry : TypePlace) (lists more : List (List TypePlace)) : Type 0 where
  pub long : length more ≡ length lists
  pub each : (type : ℕ) → slice_get more type ≡ option_map (λ list. if place == type then list ++ entry ∷ [] else list) (slice_get lists type)

-- the tables of so many types
pub record AreNeeds (entries : List TypePlace) (types : ℕ) (tables : Needs) : Type 0 where
  pub roots : tables.roots ≡ needs entries None
  pub below : AreBelow entries types entries tables.below
