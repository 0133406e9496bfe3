-- Laws for crates above: what is kept is a part of the forest, and the union of closed sets is closed.
use Rattle.std.proofs.Common.{◌≡◌, None, List, [], ◌∷◌, refl, sym, ◌∙◌}
use Rattle.segment_defs.specs.declared.idoc_type.TypePlace.{TypePlace}
use Rattle.dist_model.specs.declared.lists.Lists.{Lists}
use Rattle.dist_model.specs.declared.row.Group.{Group}
use Rattle.idoc_tree.specs.Forest.{Segment, Forest, no_trees, tree, roots}
use Rattle.idoc_tree.specs.Parts.{SegmentSet, none, takes, part, union}
use Rattle.idoc_tree.proofs.PartLemmas.{HasEnough-more}
use Rattle.idoc_tree.proofs.SetLemmas.{count_of-within, within-union, union-enough, union-AllNodes}
use Rattle.filter_objects.specs.Kept.{IsClosed, IsKeptPart}

-- the set of all segments of a forest
abbrev all_of : Forest → SegmentSet
all_of no_trees = none
all_of (tree root under behind) = takes (all_of under) (all_of behind)

part-all_of : (forest : Forest) → part forest (all_of forest) ≡ forest
part-all_of no_trees = refl
part-all_of (tree root under behind) = rw (part-all_of under, part-all_of behind) refl

-- each segment that is kept is as it was in the forest, below the same one, in its order
pub IsKeptPart-part : (model : Lists) (entries : List TypePlace) (groups : List Group) (forest kept : Forest) → IsKeptPart model entries groups forest kept →
    (set : SegmentSet) × (kept ≡ part forest set)
IsKeptPart-part model entries [] forest kept is = (all_of forest, is ∙ sym (part-all_of forest))
IsKeptPart-part model entries (group ∷ others) forest kept is = (is.0, is.2)

-- a segment is in the union where it is in either set, so it has there what is mandatory below it
pub IsClosed-union : (entries : List TypePlace) (Passes : Segment → Type 0) (forest : Forest) (set other : SegmentSet) → IsClosed entries Passes forest set →
    IsClosed entries Passes forest other → IsClosed entries Passes forest (union set other)
IsClosed-union entries Passes forest set other one two = record {
  pass = union-AllNodes Passes forest set other one.pass two.pass;
  enough = (
    HasEnough-more entries None (roots (part forest set)) (roots (part forest (union set other)))
        (λ segment. count_of-within segment forest set (union set other) (within-union forest set other).0) one.enough.0,
    union-enough entries forest set other
        one.enough.1 two.enough.1,
  );
}
