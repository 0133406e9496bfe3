-- What the groups of a row keep of a forest. That a part is closed is this project's own rule.
use Rattle.std.specs.Prelude.{◌≡◌, List, [], ◌∷◌, None}
use Rattle.std.specs.List.{AllByRecursion}
use Rattle.segment_defs.specs.declared.idoc_type.TypePlace.{TypePlace}
use Rattle.dist_model.specs.declared.lists.Lists.{Lists}
use Rattle.dist_model.specs.declared.row.Group.{Group}
use Rattle.idoc_tree.specs.Forest.{Segment, Forest, AllNodes}
use Rattle.idoc_tree.specs.Parts.{SegmentSet, none, part, IsWithin, union}
use Rattle.idoc_tree.specs.Valid.{families, HasEnough}
use Rattle.filter_objects.specs.Passing.{Passes}

-- A set of the segments of a forest is closed: each of them passes, and neither the document nor one of them has fewer
-- segments of a mandatory type below it in the set than it must have. The parent of each is in every set.
pub record IsClosed (entries : List TypePlace) (Passes : Segment → Type 0) (forest : Forest) (set : SegmentSet) : Type 0 where
  pub pass : AllNodes Passes (part forest set)
  pub enough : AllByRecursion (HasEnough entries) (families None (part forest set))

-- what is kept: the largest closed set, in which every closed set is; or nothing, where no set is closed
pub data IsKept (entries : List TypePlace) (Passes : Segment → Type 0) (forest : Forest) : SegmentSet → Type 0 where
  largest :
      (set : SegmentSet) → IsClosed entries Passes forest set
      → ((other : SegmentSet) → IsClosed entries Passes forest other → IsWithin forest other set)
      → IsKept entries Passes forest set
  nothing :
      ((other : SegmentSet) → IsClosed entries Passes forest other → ⊥)
      → IsKept entries Passes forest none

-- what some groups keep: the segments that at least one of them keeps
pub data AreKept (model : Lists) (entries : List TypePlace) (forest : Forest) : List Group → SegmentSet → Type 0 where
  by_none :
      AreKept model entries forest [] none
  by_one :
      (group : Group) (others : List Group) (own rest : SegmentSet)
      → IsKept entries (Passes model group) forest own → AreKept model entries forest others rest
      → AreKept model entries forest (group ∷ others) (union own rest)

-- what is kept of a forest: all of it where there is no group, and else the part that the groups keep
abbrev pub IsKeptPart : Lists → List TypePlace → List Group → Forest → Forest → Type 0
IsKeptPart model entries [] forest kept = kept ≡ forest
IsKeptPart model entries (group ∷ others) forest kept =
    (set : SegmentSet) × AreKept model entries forest (group ∷ others) set × (kept ≡ part forest set)
