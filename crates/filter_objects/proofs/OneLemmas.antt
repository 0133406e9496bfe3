-- There is one kept part.
use Rattle.std.proofs.Common.{◌≡◌, List, [], ◌∷◌, sym, ◌∙◌}
use Rattle.segment_defs.specs.declared.idoc_type.TypePlace.{TypePlace}
use Rattle.dist_model.specs.declared.lists.Lists.{Lists}
use Rattle.dist_model.specs.declared.row.Group.{Group}
use Rattle.idoc_tree.specs.Forest.{Segment, Forest}
use Rattle.idoc_tree.specs.Parts.{SegmentSet, none, IsWithin}
use Rattle.idoc_tree.proofs.SetLemmas.{within-none, same_part, union-within}
use Rattle.filter_objects.specs.Passing.{Passes}
use Rattle.filter_objects.specs.Kept.{IsKept, largest, nothing, AreKept, by_none, by_one, IsKeptPart}

-- two sets that are kept by one group are within each other
pub one_kept : (entries : List TypePlace) (Passes : Segment → Type 0) (forest : Forest) (set other : SegmentSet) → IsKept entries Passes forest set →
    IsKept entries Passes forest other → IsWithin forest set other × IsWithin forest other set
one_kept entries Passes forest _ _ (largest set closed most) (largest other shut all) = (all set closed, most other shut)
one_kept entries Passes forest _ _ (largest set closed most) (nothing never) = absurd (never set closed)
one_kept entries Passes forest _ _ (nothing never) (largest other shut all) = absurd (never other shut)
one_kept entries Passes forest _ _ (nothing never) (nothing no_set) = (within-none forest none, within-none forest none)

are_within : (model : Lists) (entries : List TypePlace) (forest : Forest) (groups : List Group) (set other : SegmentSet) →
    AreKept model entries forest groups set → AreKept model entries forest groups other → IsWithin forest set other
are_within model entries forest _ _ _ by_none by_none = within-none forest none
are_within model entries forest _ _ _ (by_one group others own rest is are) (by_one _ _ own_too rest_too is_too are_too) =
    union-within forest own rest own_too rest_too (one_kept entries (Passes model group) forest own own_too is is_too).0
    (are_within model entries forest others rest rest_too are are_too)

-- groups keep one part of a forest
pub one_part : (model : Lists) (entries : List TypePlace) (groups : List Group) (forest first second : Forest) → IsKeptPart model entries groups forest first →
    IsKeptPart model entries groups forest second → first ≡ second
one_part model entries [] forest first second one two = one ∙ sym two
one_part model entries (group ∷ others) forest first second one two =
    one.2
    ∙ same_part forest one.0 two.0
    (are_within model entries forest (group ∷ others) one.0 two.0 one.1 two.1)
    (are_within model entries forest (group ∷ others) two.0 one.0 two.1 one.1)
    ∙ sym two.2
