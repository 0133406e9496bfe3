-- The entries of an IDoc type: segment types in preorder, and how often they occur.
use Rattle.std.specs.Prelude.{ℕ, ◌-◌, ◌^◌, ◌==◌, Bool, true, false, List, [], ◌∷◌, ◌++◌, map, nat_eq, nat_le, position, Option, Some, None, option_and_then}
use Rattle.std.specs.Prelude.{Result, Ok, Err, if◌then◌else◌}
use Rattle.std.specs.List.{list_any}
use Rattle.toml.specs.Data.{Data, Items, Members, get_member, as_str}
use Rattle.ale_base.specs.Text.{is_text}
use Rattle.segment_defs.specs.declared.limits.TheConstants.{MOST_LEVELS, MOST_TIMES}
use Rattle.segment_defs.specs.declared.idoc_type.TypePlace.{TypePlace}
use Rattle.segment_defs.specs.IdocType.{open_level}
use Rattle.model_keys.specs.declared.finding.Finding.{Finding}
use Rattle.model_keys.specs.declared.finding.Cause.TheVariants.{Limit, Twice, Wrong}
use Rattle.model_keys.specs.Finding.{◌>>=◌, at, check, required}
use Rattle.model_keys.specs.Each.{each}
use Rattle.model_keys.specs.Keys.{bool_or_at, entry_of, number_of, or_else, segment_type_at}
use Rattle.model_text.specs.declared.keys.TheConstants.{ENTRY_KEYS, MANDATORY, MAX, MIN, PARENT, SEGMENT, TYPE}

-- the segment types of some entries
abbrev pub entry_types : List TypePlace → List ℕ
entry_types entries = map (λ entry. entry.segment) entries

-- a segment type that is none of some others
unfoldable pub new_type_at : List (List ℕ) → List ℕ → Members → Result ℕ Finding
new_type_at types segments table = do
  segment ← segment_type_at TYPE.now types table
  if list_any (nat_eq segment) segments then Err (at Twice TYPE.now) else Ok segment

-- the place of the entry whose segment type has this name
abbrev pub parent_place : List (List ℕ) → List ℕ → List ℕ → Option ℕ
parent_place types segments text =
    option_and_then (λ segment. position (nat_eq segment) segments) (position (is_text text) types)

-- the last of some entries or one above it, and not so deep that nothing may hang below it
abbrev pub open_place : List TypePlace → ℕ → Result ℕ Finding
open_place entries place =
    if open_level place entries == 0 then Err (at Wrong PARENT.now)
    else if nat_le MOST_LEVELS (open_level place entries) then Err (at Limit PARENT.now) else Ok place

-- the parent that a text names: an entry behind which one more may hang
unfoldable pub parent_of : List (List ℕ) → List ℕ → List TypePlace → Data → Result ℕ Finding
parent_of types segments entries d = do
  text ← required Wrong PARENT.now (as_str d)
  place ← required Wrong PARENT.now (parent_place types segments text)
  open_place entries place

-- the same, as the parent of an entry that has one
abbrev pub some_parent : List (List ℕ) → List ℕ → List TypePlace → Data → Result (Option ℕ) Finding
some_parent types segments entries d = do
  place ← parent_of types segments entries d
  Ok (Some place)

-- none where the key is absent: the entry stands at the root level
unfoldable pub parent_at : List (List ℕ) → List ℕ → List TypePlace → Members → Result (Option ℕ) Finding
parent_at types segments entries table = or_else None (some_parent types segments entries) (get_member PARENT.now table)

-- a least number, which only a mandatory entry gives
unfoldable pub min_of : Bool → Data → Result ℕ Finding
min_of mandatory d = do
  min ← number_of 1 (2 ^ 63 - 1) MIN.now d
  if mandatory then Ok min else Err (at Wrong MIN.now)

-- 1 where the key is absent
unfoldable pub min_at : Bool → Members → Result ℕ Finding
min_at mandatory table = or_else 1 (min_of mandatory) (get_member MIN.now table)

-- a greatest number by itself, 1 where the key is absent
abbrev pub greatest_at : Members → Result ℕ Finding
greatest_at table = or_else 1 (number_of 1 MOST_TIMES MAX.now) (get_member MAX.now table)

-- a greatest number, no less than the least
unfoldable pub max_at : ℕ → Members → Result ℕ Finding
max_at min table = do
  max ← greatest_at table
  if nat_le min max then Ok max else Err (at Wrong MAX.now)

-- whether an entry is mandatory, and how often it may occur
unfoldable pub times_at : Members → Result (Bool × ℕ × ℕ) Finding
times_at table = do
  mandatory ← bool_or_at false MANDATORY.now table
  min ← min_at mandatory table
  max ← max_at min table
  Ok (mandatory, min, max)

-- the first entry is mandatory and occurs once; a parent it can't have, since no entry is open before it
abbrev pub root_of : List TypePlace → Bool → ℕ → ℕ → Result Bool Finding
root_of [] mandatory min max = do
  is_mandatory ← check Wrong MANDATORY.now mandatory
  once ← check Wrong MIN.now (min == 1)
  check Wrong MAX.now (max == 1)
root_of (entry ∷ entries) mandatory min max = Ok true

-- one more entry behind some
unfoldable pub type_place_of : List (List ℕ) → List TypePlace → Data → Result TypePlace Finding
type_place_of types entries d = do
  table ← entry_of (map (λ key. key.now) ENTRY_KEYS) d
  segment ← new_type_at types (entry_types entries) table
  parent ← parent_at types (entry_types entries ++ segment ∷ []) entries table
  times ← times_at table
  root ← root_of entries times.0 times.1 times.2
  Ok (record { segment = segment; parent = parent; mandatory = times.0; min = times.1; max = times.2 })

-- the entries of a list, each behind those before it
abbrev pub entries_of : List (List ℕ) → Items → Result (List TypePlace) Finding
entries_of types ds = each SEGMENT.now (λ done d. type_place_of types done d) 0 [] ds
