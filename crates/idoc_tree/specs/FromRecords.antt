-- What is made of data records, as a function: callers may compute with it. `Builds` says what that is; by the contract of
-- `build` the two agree.
use Rattle.std.specs.Prelude.{ℕ, suc, List, [], ◌∷◌, Option, Some, None, slice_get, Result, Ok, Err}
use Rattle.ale_base.specs.Text.{told_length}
use Rattle.idoc_record.specs.Data.{DataRecord}
use Rattle.segment_defs.specs.declared.segment_type.SegmentType.{SegmentType}
use Rattle.segment_defs.specs.declared.definitions.Definitions.{Definitions}
use Rattle.segment_defs.specs.declared.idoc_type.TypePlace.{TypePlace}
use Rattle.idoc_tree.specs.declared.fault.SyntaxFault.{SyntaxFault}
use Rattle.idoc_tree.specs.declared.fault.SyntaxFault.TheVariants.{Missing}
use Rattle.idoc_tree.specs.Forest.{Forest, no_trees}
use Rattle.idoc_tree.specs.Valid.{families}
use Rattle.idoc_tree.specs.steps.Growing.{grown}
use Rattle.idoc_tree.specs.steps.Lacking.{first_lack}

-- goes on with a forest, and leaves a fault
abbrev pub go_on : Result Forest SyntaxFault → (Forest → Result Forest SyntaxFault) → Result Forest SyntaxFault
go_on (Ok forest) next = next forest
go_on (Err fault) next = Err fault

-- the name of a segment type
abbrev pub name_in : Option SegmentType → List ℕ
name_in None = []
name_in (Some type) = type.name

-- the forest with the segments of all records more, the first of which has this number, or the first fault
abbrev pub grown_all : Definitions → List TypePlace → ℕ → Forest → List DataRecord → Result Forest SyntaxFault
grown_all definitions entries number forest [] = Ok forest
grown_all definitions entries number forest (line ∷ lines) =
    go_on (grown definitions entries number line forest) (λ next. grown_all definitions entries (suc number) next lines)

-- the forest, if it lacks nothing
abbrev pub missing_of : Definitions → Option (ℕ × ℕ) → Forest → Result Forest SyntaxFault
missing_of definitions None forest = Ok forest
missing_of definitions (Some lack) forest = Err (Missing (name_in (slice_get definitions.types lack.0)) (told_length lack.1))

-- the forest of all records if it lacks nothing, or the first fault
abbrev pub built : Definitions → List TypePlace → List DataRecord → Result Forest SyntaxFault
built definitions entries lines =
    go_on (grown_all definitions entries 1 no_trees lines) (λ forest. missing_of definitions (first_lack entries (families None forest)) forest)
