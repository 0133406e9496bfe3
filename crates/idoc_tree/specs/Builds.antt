-- What is made of the data records of a document by its IDoc type: its forest, or the first fault.
use Rattle.std.specs.Prelude.{◌≡◌, ℕ, suc, ◌≤◌, List, ◌∷◌, ◌++◌, length, take, slice_get, true, false, Option, Some, None, Result, Ok, Err}
use Rattle.std.specs.List.{AllByRecursion}
use Rattle.idoc_record.specs.Data.{DataRecord}
use Rattle.ale_base.specs.Text.{told_length}
use Rattle.segment_defs.specs.declared.segment_type.SegmentType.{SegmentType}
use Rattle.segment_defs.specs.declared.definitions.Definitions.{Definitions}
use Rattle.segment_defs.specs.declared.idoc_type.TypePlace.{TypePlace}
use Rattle.segment_defs.specs.IdocType.{place_in, entry_of, parent_of}
use Rattle.idoc_tree.specs.declared.fault.SyntaxFault.{SyntaxFault}
use Rattle.idoc_tree.specs.declared.fault.SyntaxFault.TheVariants.{UnknownSegment, Misplaced, TooMany, Missing, OutOfMemory}
use Rattle.idoc_tree.specs.Forest.{Segment, Forest, count_of}
use Rattle.idoc_tree.specs.Spells.{segment_of, Spells}
use Rattle.idoc_tree.specs.Valid.{Family, families, Fits, Suffices, HasEnough, Lacks, IsValid}
use Rattle.idoc_tree.specs.Siblings.{siblings, has_later}

-- the lines spell the forest, and its families stand in order, with no type too often
pub record SpellsInOrder (definitions : Definitions) (entries : List TypePlace) (lines : List DataRecord) (forest : Forest) : Type 0 where
  pub spells : Spells definitions entries lines forest
  pub fits : AllByRecursion (Fits entries) (families None forest)

-- a segment type can't come next: the IDoc type lacks it, no segment of the type above it is open, or a sibling of a
-- later type stands before it
pub data IsMisplaced (entries : List TypePlace) (forest : Forest) (type : ℕ) : Type 0 where
  foreign :
      parent_of entries type ≡ None
      → IsMisplaced entries forest type
  closed :
      (above : Option ℕ) → parent_of entries type ≡ Some above → siblings above forest ≡ None
      → IsMisplaced entries forest type
  late :
      (above : Option ℕ) (among : List Segment) → parent_of entries type ≡ Some above → siblings above forest ≡ Some among
      → has_later entries (place_in entries type) among ≡ true
      → IsMisplaced entries forest type

-- a segment type could come next, but there are as many of it among its siblings as may be
pub record IsTooMany (entries : List TypePlace) (forest : Forest) (type : ℕ) : Type 0 where
  pub entry : TypePlace
  pub entry_at : entry_of entries type ≡ Some entry
  pub above : Option ℕ
  pub parent : parent_of entries type ≡ Some above
  pub among : List Segment
  pub siblings_are : siblings above forest ≡ Some among
  pub in_time : has_later entries (place_in entries type) among ≡ false
  pub full : entry.max ≤ count_of type among

-- the name of a record stands for nothing
abbrev pub IsUnknown : Definitions → Forest → DataRecord → Type 0
IsUnknown definitions forest line = segment_of definitions line ≡ None

-- the segment of a record is wrong behind the forest of the records before it
pub record Faulty (definitions : Definitions) (IsWrong : Forest → ℕ → Type 0) (forest : Forest) (line : DataRecord) : Type 0 where
  pub segment : Segment
  pub known : segment_of definitions line ≡ Some segment
  pub wrong : IsWrong forest segment.type

-- the records before this one spell a forest in order, and this one is wrong behind it
pub record IsRefusedAt (definitions : Definitions) (entries : List TypePlace) (lines : List DataRecord) (number : ℕ)
    (IsWrong : Forest → DataRecord → Type 0) : Type 0 where
  pub before : List DataRecord
  pub line : DataRecord
  pub after : List DataRecord
  pub split : lines ≡ before ++ line ∷ after
  pub told : number ≡ told_length (suc (length before))
  pub forest : Forest
  pub stands : SpellsInOrder definitions entries before forest
  pub wrong : IsWrong forest line

-- All records spell a forest in order, but a family lacks a mandatory type: the first family that does, and the first
-- type that it lacks. The number is that of the family's segment, and 0 for the document.
pub record IsMissing (definitions : Definitions) (entries : List TypePlace) (lines : List DataRecord) (name : List ℕ)
    (number : ℕ) : Type 0 where
  pub forest : Forest
  pub stands : SpellsInOrder definitions entries lines forest
  pub place : ℕ
  pub family : Family
  pub family_at : slice_get (families None forest) place ≡ Some family
  pub families_before : AllByRecursion (HasEnough entries) (take place (families None forest))
  pub at : ℕ
  pub entry : TypePlace
  pub entry_at : slice_get entries at ≡ Some entry
  pub lacks : Lacks entries family entry
  pub entries_before : AllByRecursion (Suffices entries family) (take at entries)
  pub type : SegmentType
  pub type_at : slice_get definitions.types entry.segment ≡ Some type
  pub named : name ≡ type.name
  pub told : number ≡ told_length place

-- the first fault of the data records
abbrev pub IsFirstFault : Definitions → List TypePlace → List DataRecord → SyntaxFault → Type 0
IsFirstFault definitions entries lines (UnknownSegment number) =
    IsRefusedAt definitions entries lines number (IsUnknown definitions)
IsFirstFault definitions entries lines (Misplaced number) =
    IsRefusedAt definitions entries lines number (Faulty definitions (IsMisplaced entries))
IsFirstFault definitions entries lines (TooMany number) =
    IsRefusedAt definitions entries lines number (Faulty definitions (IsTooMany entries))
IsFirstFault definitions entries lines (Missing name number) = IsMissing definitions entries lines name number
IsFirstFault definitions entries lines OutOfMemory = ⊥

-- what is made of the records: the forest that they spell, if it is valid, and else their first fault
abbrev pub Builds : Definitions → List TypePlace → List DataRecord → Result Forest SyntaxFault → Type 0
Builds definitions entries lines (Ok forest) = Spells definitions entries lines forest × IsValid entries forest
Builds definitions entries lines (Err fault) = IsFirstFault definitions entries lines fault
