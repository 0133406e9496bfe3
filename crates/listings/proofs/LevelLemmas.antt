-- Segments that hang together by an IDoc type are no deeper than it goes.
use Rattle.std.specs.Prelude.{nat_eq}
use Rattle.std.specs.List.{IsDistinct}
use Rattle.std.proofs.Common.{◌≡◌, ℕ, suc, Option, Some, None, List, [], map}
use Rattle.segment_defs.specs.declared.definitions.Definitions.{Definitions}
use Rattle.segment_defs.specs.declared.idoc_type.TypePlace.{TypePlace}
use Rattle.segment_defs.specs.IdocType.{IsPreorder, parent_of, place_in}
use Rattle.idoc_tree.specs.Forest.{Forest, no_trees, tree}
use Rattle.idoc_tree.specs.Spells.{Hangs}
use Rattle.idoc_reading.specs.Document.{AreEntries}
use Rattle.listings.specs.steps.Levels.{LevelsWithin}
use Rattle.listings.proofs.PathLemmas.{TypeHasLevel, level-most, next-level, root-level}

module _ (entries : List TypePlace) (ordered : IsPreorder 0 [] entries) (apart : IsDistinct nat_eq (map (λ entry. entry.segment) entries)) where
  hanging-within : (above : Option ℕ) (level : ℕ) (forest : Forest)
      → ((type : ℕ) → parent_of entries type ≡ Some above → TypeHasLevel entries ordered apart level type)
      → Hangs entries above forest → LevelsWithin level forest
  hanging-within above level no_trees has hangs = tt
  hanging-within above level (tree root below after) has hangs =
      let here = has root.type hangs.0 in (
        level-most entries level (place_in entries root.type) ordered here.0 here.1,
        hanging-within (Some root.type) (suc level) below (λ type is. next-level entries ordered apart level type root.type here is) hangs.1,
        hanging-within above level after has hangs.2,
      )

-- a forest that hangs together by the entries of an IDoc type
pub levels-within : (definitions : Definitions) (entries : List TypePlace) (forest : Forest)
    → AreEntries definitions entries → Hangs entries None forest → LevelsWithin 1 forest
levels-within definitions entries forest are hangs =
    hanging-within entries are.preorder are.apart None 1 forest (root-level entries are.preorder are.apart) hangs
