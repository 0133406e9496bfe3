-- What the data records of a document spell: its segments, and how they hang together.
use Rattle.std.specs.Prelude.{◌≡◌, ℕ, List, [], map, Option, Some, None}
use Rattle.std.specs.Option.{option_map, option_map_or}
use Rattle.idoc_record.specs.Data.{DataRecord}
use Rattle.segment_defs.specs.declared.version.Version.{Version}
use Rattle.segment_defs.specs.declared.definitions.Definitions.{Definitions}
use Rattle.segment_defs.specs.declared.idoc_type.TypePlace.{TypePlace}
use Rattle.segment_defs.specs.Version.{fitted}
use Rattle.segment_defs.specs.Definitions.{found_in, version_of}
use Rattle.segment_defs.specs.IdocType.{parent_of}
use Rattle.idoc_tree.specs.Forest.{Segment, Forest, no_trees, tree, preorder}

-- data as a definition has them
abbrev pub fitted_by : Option Version → List ℕ → List ℕ
fitted_by definition sdata = option_map_or (λ is. fitted is sdata) definition []

-- the segment of a record whose name stands for this type and this definition: the data are cut to the definition
abbrev pub segment_found : Definitions → List ℕ → ℕ × ℕ → Segment
segment_found definitions sdata found =
    record { type = found.0; version = found.1; sdata = fitted_by (version_of definitions found.0 found.1) sdata }

-- The segment that a data record stands for; none where its name stands for nothing. Among definitions that keep their
-- rules, `found_in` gives what a name stands for.
abbrev pub segment_of : Definitions → DataRecord → Option Segment
segment_of definitions line = option_map (segment_found definitions line.sdata) (found_in line.segnam definitions.types)

-- Each segment's type stands in the IDoc type, and the type above it there is that of the segment above it here; none
-- is above both at the root level.
abbrev pub Hangs : List TypePlace → Option ℕ → Forest → Type 0
Hangs entries above no_trees = Unit {0}
Hangs entries above (tree root below after) =
    (parent_of entries root.type ≡ Some above) × Hangs entries (Some root.type) below × Hangs entries above after

-- the lines are the preorder of the forest, which hangs together by the IDoc type
pub record Spells (definitions : Definitions) (entries : List TypePlace) (lines : List DataRecord) (forest : Forest)
    : Type 0 where
  pub segments : map (segment_of definitions) lines ≡ map Some (preorder forest)
  pub hangs : Hangs entries None forest
