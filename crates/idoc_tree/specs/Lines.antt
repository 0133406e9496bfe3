-- The data records of a forest.
use Rattle.std.specs.Prelude.{◌≡◌, ℕ, ◌≤◌, List, [], length, map, Option, Some}
use Rattle.std.specs.Option.{option_map_or}
use Rattle.ale_base.specs.Blanks.{trimmed}
use Rattle.idoc_record.specs.Data.{DataRecord}
use Rattle.segment_defs.specs.declared.version.Version.{Version}
use Rattle.segment_defs.specs.declared.definitions.Definitions.{Definitions}
use Rattle.segment_defs.specs.Definitions.{version_of}
use Rattle.idoc_tree.specs.Forest.{Segment, Forest, preorder}
use Rattle.idoc_tree.specs.Spells.{fitted_by}

-- a segment of these definitions: there is its definition, and its data are at most 1,000 bytes that end in no blank
pub record IsNode (definitions : Definitions) (segment : Segment) : Type 0 where
  pub definition : Version
  pub here : version_of definitions segment.type segment.version ≡ Some definition
  pub short : length segment.sdata ≤ 1000
  pub ends : trimmed segment.sdata ≡ segment.sdata

-- the data of a segment are as its definition has them
abbrev pub IsFitted : Definitions → Segment → Type 0
IsFitted definitions segment = fitted_by (version_of definitions segment.type segment.version) segment.sdata ≡ segment.sdata

-- the name of a definition
abbrev pub name_of : Option Version → List ℕ
name_of definition = option_map_or (λ is. is.name) definition []

-- the data record of a segment, which has the name of its definition
abbrev pub line_of : Definitions → Segment → DataRecord
line_of definitions segment =
    record { segnam = name_of (version_of definitions segment.type segment.version); sdata = segment.sdata }

-- the data records of a forest
abbrev pub lines_of : Definitions → Forest → List DataRecord
lines_of definitions forest = map (line_of definitions) (preorder forest)
