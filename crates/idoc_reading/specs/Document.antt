-- A document by the entries of an IDoc type.
use Rattle.std.specs.Prelude.{◌<◌, List, [], length, map, nat_eq, None}
use Rattle.std.specs.List.{AllByRecursion, IsDistinct}
use Rattle.segment_defs.specs.declared.definitions.Definitions.{Definitions}
use Rattle.segment_defs.specs.declared.idoc_type.TypePlace.{TypePlace}
use Rattle.segment_defs.specs.IdocType.{IsPreorder}
use Rattle.idoc_tree.specs.Forest.{Forest, AllNodes}
use Rattle.idoc_tree.specs.Lines.{IsNode, IsFitted}
use Rattle.idoc_tree.specs.Spells.{Hangs}
use Rattle.idoc_tree.specs.Valid.{IsValid}

-- what the entries of each IDoc type keep: they are of segment types that there are, each of another, and stand in preorder
pub record AreEntries (definitions : Definitions) (entries : List TypePlace) : Type 0 where
  pub known : AllByRecursion (λ entry. entry.segment < length definitions.types) entries
  pub apart : IsDistinct nat_eq (map (λ entry. entry.segment) entries)
  pub preorder : IsPreorder 0 [] entries

-- a forest is one by these entries: its segments have definitions and fit them, hang together by the entries, and are valid by them
pub record IsOfEntries (definitions : Definitions) (entries : List TypePlace) (forest : Forest) : Type 0 where
  pub nodes : AllNodes (IsNode definitions) forest
  pub fitted : AllNodes (IsFitted definitions) forest
  pub hangs : Hangs entries None forest
  pub valid : IsValid entries forest
