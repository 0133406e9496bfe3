-- What one more record makes of the forest of those before it: one step on the way to what `Builds` says of all records.
use Rattle.std.specs.Prelude.{◌≡◌, ℕ, ◌==◌, true, nat_le, List, [], ◌∷◌, Option, Some, None, Result, Ok, Err, if◌then◌else◌}
use Rattle.std.specs.List.{AllByRecursion}
use Rattle.ale_base.specs.Text.{told_length}
use Rattle.idoc_record.specs.Data.{DataRecord}
use Rattle.segment_defs.specs.declared.definitions.Definitions.{Definitions}
use Rattle.segment_defs.specs.declared.idoc_type.TypePlace.{TypePlace}
use Rattle.segment_defs.specs.IdocType.{place_in, entry_of, type_above}
use Rattle.idoc_tree.specs.declared.fault.SyntaxFault.{SyntaxFault}
use Rattle.idoc_tree.specs.declared.fault.SyntaxFault.TheVariants.{UnknownSegment, Misplaced, TooMany}
use Rattle.idoc_tree.specs.Forest.{Segment, Forest, no_trees, tree, is_bare, leaf, joined, count_of}
use Rattle.idoc_tree.specs.Spells.{segment_of}
use Rattle.idoc_tree.specs.Siblings.{siblings, has_later}

-- the forest with one segment more, the last below the open segment of a type
abbrev pub hung_below : ℕ → Segment → Forest → Forest
hung_below type segment no_trees = no_trees
hung_below type segment (tree root below after) =
    if is_bare after
    then tree root (if root.type == type then joined below (leaf segment) else hung_below type segment below) after
    else tree root below (hung_below type segment after)

-- the forest with one segment more, the last there or the last root
abbrev pub hung : Option ℕ → Segment → Forest → Forest
hung None segment forest = joined forest (leaf segment)
hung (Some above) segment forest = hung_below above segment forest

-- the forest with a segment more behind its siblings, or the fault of record `number`
abbrev pub grown_among : List TypePlace → ℕ → Segment → TypePlace → Forest → Option (List Segment) → Result Forest SyntaxFault
grown_among entries number segment entry forest None = Err (Misplaced (told_length number))
grown_among entries number segment entry forest (Some among) =
    if has_later entries (place_in entries segment.type) among then Err (Misplaced (told_length number))
    else (if nat_le entry.max (count_of segment.type among) then Err (TooMany (told_length number))
    else Ok (hung (type_above entries entry) segment forest))

-- the same, by the entry of the segment's type
abbrev pub grown_at : List TypePlace → ℕ → Segment → Forest → Option TypePlace → Result Forest SyntaxFault
grown_at entries number segment forest None = Err (Misplaced (told_length number))
grown_at entries number segment forest (Some entry) =
    grown_among entries number segment entry forest (siblings (type_above entries entry) forest)

-- the same, by the segment
abbrev pub grown_by : List TypePlace → ℕ → Forest → Option Segment → Result Forest SyntaxFault
grown_by entries number forest None = Err (UnknownSegment (told_length number))
grown_by entries number forest (Some segment) = grown_at entries number segment forest (entry_of entries segment.type)

-- the forest with the segment of one record more, or the fault of that record
abbrev pub grown : Definitions → List TypePlace → ℕ → DataRecord → Forest → Result Forest SyntaxFault
grown definitions entries number line forest = grown_by entries number forest (segment_of definitions line)

-- the segments of a type stand behind all others
abbrev pub AreLast : ℕ → List Segment → Type 0
AreLast type [] = Unit {0}
AreLast type (segment ∷ segments) =
    (segment.type == type ≡ true → AllByRecursion (λ other. other.type == type ≡ true) segments)
    × AreLast type segments
