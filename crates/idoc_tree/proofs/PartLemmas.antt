-- What is left of a forest where only a part of it is kept.
use Rattle.std.specs.List.{AllByRecursion}
use Rattle.std.proofs.Common.{◌≡◌, ℕ, suc, ◌≤◌, ◌==◌, Bool, true, false, cond, Option, Some, None, List, refl, arith}
use Rattle.segment_defs.specs.declared.idoc_type.TypePlace.{TypePlace}
use Rattle.segment_defs.specs.IdocType.{place_in}
use Rattle.ale_base.proofs.ListLemmas.{AllByRecursion-weaker, AllByRecursion-append, AllByRecursion-parts}
use Rattle.idoc_tree.specs.Forest.{Segment, Forest, no_trees, tree, roots, count_of, AllNodes}
use Rattle.idoc_tree.specs.Spells.{Hangs}
use Rattle.idoc_tree.specs.Valid.{families_below, families, IsOrdered, Fits, HasEnough}
use Rattle.idoc_tree.specs.Parts.{SegmentSet, none, takes, leaves, part}

-- nothing is in the empty set
pub part-none : (forest : Forest) → part forest none ≡ no_trees
part-none no_trees = refl
part-none (tree root under behind) = refl

-- what holds of all segments holds of those that are kept
pub AllNodes-part : (P : Segment → Type 0) (forest : Forest) (set : SegmentSet) → AllNodes P forest → AllNodes P (part forest set)
AllNodes-part P no_trees set all = tt
AllNodes-part P (tree root under behind) none all = tt
AllNodes-part P (tree root under behind) (takes below after) all =
    (all.0, AllNodes-part P under below all.1, AllNodes-part P behind after all.2)
AllNodes-part P (tree root under behind) (leaves after) all = AllNodes-part P behind after all.2

-- what hung together still does
pub Hangs-part : (entries : List TypePlace) (above : Option ℕ) (forest : Forest) (set : SegmentSet) → Hangs entries above forest →
    Hangs entries above (part forest set)
Hangs-part entries above no_trees set all = tt
Hangs-part entries above (tree root under behind) none all = tt
Hangs-part entries above (tree root under behind) (takes below after) all =
    (all.0, Hangs-part entries (Some root.type) under below all.1, Hangs-part entries above behind after all.2)
Hangs-part entries above (tree root under behind) (leaves after) all = Hangs-part entries above behind after all.2

-- what holds of the roots holds of those that are in a set
pub roots-part : (P : Segment → Type 0) (forest : Forest) (set : SegmentSet) → AllByRecursion P (roots forest) → AllByRecursion P (roots (part forest set))
roots-part P no_trees set all = tt
roots-part P (tree root under behind) none all = tt
roots-part P (tree root under behind) (takes below after) all = (all.0, roots-part P behind after all.1)
roots-part P (tree root under behind) (leaves after) all = roots-part P behind after all.1

-- roots that stood in order still do
pub IsOrdered-part : (entries : List TypePlace) (forest : Forest) (set : SegmentSet) → IsOrdered entries (roots forest) →
    IsOrdered entries (roots (part forest set))
IsOrdered-part entries no_trees set all = tt
IsOrdered-part entries (tree root under behind) none all = tt
IsOrdered-part entries (tree root under behind) (takes below after) all =
    (roots-part (λ other. place_in entries root.type ≤ place_in entries other.type) behind after all.0, IsOrdered-part entries behind after all.1)
IsOrdered-part entries (tree root under behind) (leaves after) all = IsOrdered-part entries behind after all.1

-- one more on both sides keeps the order of two numbers
pub one_more : (b : Bool) (few many : ℕ) → few ≤ many → cond b (suc few) few ≤ cond b (suc many) many
one_more true few many less = omega arith
one_more false few many less = less

-- and so does one more of the greater one, or none
pub not_less : (b : Bool) (few many : ℕ) → few ≤ many → few ≤ cond b (suc many) many
not_less true few many less = omega arith
not_less false few many less = less

-- no type has more roots than before
pub count_of-part : (type : ℕ) (forest : Forest) (set : SegmentSet) → count_of type (roots (part forest set)) ≤ count_of type (roots forest)
count_of-part type no_trees set = omega arith
count_of-part type (tree root under behind) none = omega arith
count_of-part type (tree root under behind) (takes below after) = one_more (root.type == type) _ _ (count_of-part type behind after)
count_of-part type (tree root under behind) (leaves after) = not_less (root.type == type) _ _ (count_of-part type behind after)

-- a family that fitted still does
pub Fits-part : (entries : List TypePlace) (above : Option ℕ) (forest : Forest) (set : SegmentSet) →
    Fits entries (record { above = above; children = roots forest }) → Fits entries (record { above = above; children = roots (part forest set) })
Fits-part entries above forest set fits = record {
  ordered = IsOrdered-part entries forest set fits.ordered;
  at_most = AllByRecursion-weaker _ _ entries (λ entry most. omega (arith, count_of-part entry.segment forest set)) fits.at_most;
}

-- and so do those below each segment
pub fits_below-part : (entries : List TypePlace) (forest : Forest) (set : SegmentSet) → AllByRecursion (Fits entries) (families_below forest) →
    AllByRecursion (Fits entries) (families_below (part forest set))
fits_below-part entries no_trees set all = tt
fits_below-part entries (tree root under behind) none all = tt
fits_below-part entries (tree root under behind) (takes below after) all =
    let parts = AllByRecursion-parts (Fits entries) (families_below under) (families_below behind) all.1 in (
      Fits-part entries (Some root.type) under below all.0,
      AllByRecursion-append (Fits entries) (families_below (part under below)) (families_below (part behind after))
          (fits_below-part entries under below parts.0) (fits_below-part entries behind after parts.1),
    )
fits_below-part entries (tree root under behind) (leaves after) all =
    fits_below-part entries behind after (AllByRecursion-parts (Fits entries) (families_below under) (families_below behind) all.1).1

-- the same with the family of the roots
pub fits-part : (entries : List TypePlace) (forest : Forest) (set : SegmentSet) → AllByRecursion (Fits entries) (families None forest) →
    AllByRecursion (Fits entries) (families None (part forest set))
fits-part entries forest set all = (Fits-part entries None forest set all.0, fits_below-part entries forest set all.1)

-- what had enough has enough where no type has fewer
pub HasEnough-more : (entries : List TypePlace) (above : Option ℕ) (few more : List Segment) → ((type : ℕ) → count_of type few ≤ count_of type more) →
    HasEnough entries (record { above = above; children = few }) → HasEnough entries (record { above = above; children = more })
HasEnough-more entries above few more grows enough =
    AllByRecursion-weaker _ _ entries (λ entry suffices. λ mandatory own. omega (arith, suffices mandatory own, grows entry.segment)) enough

-- each segment of a forest has enough of each mandatory type below it
abbrev pub EnoughBelow : List TypePlace → Forest → Type 0
EnoughBelow entries forest = AllByRecursion (HasEnough entries) (families_below forest)

-- a tree has enough below its segments where its root, those below it and those after it have
pub EnoughBelow-tree : (entries : List TypePlace) (root : Segment) (below after : Forest) →
    HasEnough entries (record { above = Some root.type; children = roots below }) → EnoughBelow entries below → EnoughBelow entries after →
    EnoughBelow entries (tree root below after)
EnoughBelow-tree entries root below after here under
    behind = (here, AllByRecursion-append (HasEnough entries) (families_below below) (families_below after) under behind)

-- and then those below the root and those after it have
pub EnoughBelow-parts : (entries : List TypePlace) (root : Segment) (below after : Forest) → EnoughBelow entries (tree root below after) →
    EnoughBelow entries below × EnoughBelow entries after
EnoughBelow-parts entries root below after all = AllByRecursion-parts (HasEnough entries) (families_below below) (families_below after) all.1
