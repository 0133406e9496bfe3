-- Sets of the segments of a forest: one within another, and put together.
use Rattle.std.proofs.Common.{◌≡◌, ℕ, ◌≤◌, ◌==◌, Some, List, refl, ap, sym, subst, ◌∙◌, arith}
use Rattle.segment_defs.specs.declared.idoc_type.TypePlace.{TypePlace}
use Rattle.idoc_tree.specs.Forest.{Segment, Forest, no_trees, tree, roots, count_of, AllNodes}
use Rattle.idoc_tree.specs.Parts.{SegmentSet, none, takes, leaves, part, IsWithin, union}
use Rattle.idoc_tree.proofs.PartLemmas.{part-none, one_more, not_less, EnoughBelow, EnoughBelow-tree, EnoughBelow-parts, HasEnough-more}

-- a larger set has as many of each type or more
pub count_of-within : (type : ℕ) (forest : Forest) (set other : SegmentSet) → IsWithin forest set other →
    count_of type (roots (part forest set)) ≤ count_of type (roots (part forest other))
count_of-within type no_trees set other within = omega arith
count_of-within type (tree root under behind) none other within = omega arith
count_of-within type (tree root under behind) (takes below after) none within = absurd within
count_of-within type (tree root under behind) (takes below after) (takes b a) within = one_more (root.type == type) _ _
    (count_of-within type behind after a within.1)
count_of-within type (tree root under behind) (takes below after) (leaves a) within = absurd within
count_of-within type (tree root under behind) (leaves after) none within =
    subst (λ (f : Forest). count_of type (roots (part behind after)) ≤ count_of type (roots f)) (part-none behind)
    (count_of-within type behind after none within)
count_of-within type (tree root under behind) (leaves after) (takes b a) within = not_less (root.type == type) _ _ (count_of-within type behind after a within)
count_of-within type (tree root under behind) (leaves after) (leaves a) within = count_of-within type behind after a within

-- a set is within itself
pub IsWithin-own : (forest : Forest) (set : SegmentSet) → IsWithin forest set set
IsWithin-own no_trees set = tt
IsWithin-own (tree root under behind) none = tt
IsWithin-own (tree root under behind) (takes below after) = (IsWithin-own under below, IsWithin-own behind after)
IsWithin-own (tree root under behind) (leaves after) = IsWithin-own behind after

-- each of two sets is within both together
pub within-union : (forest : Forest) (set other : SegmentSet) → IsWithin forest set (union set other) × IsWithin forest other (union set other)
within-union no_trees set other = (tt, tt)
within-union (tree root under behind) none none = (tt, tt)
within-union (tree root under behind) none (takes b a) = (tt, IsWithin-own (tree root under behind) (takes b a))
within-union (tree root under behind) none (leaves a) = (tt, IsWithin-own behind a)
within-union (tree root under behind) (takes below after) none = (IsWithin-own (tree root under behind) (takes below after), tt)
within-union (tree root under behind) (takes below after) (takes b a) =
    let here = within-union under below b in
    let there = within-union behind after a in
    ((here.0, there.0), (here.1, there.1))
within-union (tree root under behind) (takes below after) (leaves a) =
    let there = within-union behind after a in ((IsWithin-own under below, there.0), there.1)
within-union (tree root under behind) (leaves after) none = (IsWithin-own behind after, tt)
within-union (tree root under behind) (leaves after) (takes b a) =
    let there = within-union behind after a in (there.0, (IsWithin-own under b, there.1))
within-union (tree root under behind) (leaves after) (leaves a) = within-union behind after a

-- sets whose segments have enough below them do together too
pub union-enough : (entries : List TypePlace) (forest : Forest) (set other : SegmentSet) → EnoughBelow entries (part forest set) →
    EnoughBelow entries (part forest other) → EnoughBelow entries (part forest (union set other))
union-enough entries no_trees set other here there = tt
union-enough entries (tree root under behind) none other here there = there
union-enough entries (tree root under behind) (takes below after) none here there = here
union-enough entries (tree root under behind) (takes below after) (takes b a) here there =
    let one = EnoughBelow-parts entries root (part under below) (part behind after) here in
    let two = EnoughBelow-parts entries root (part under b) (part behind a) there in
    EnoughBelow-tree entries root (part under (union below b)) (part behind (union after a))
    (HasEnough-more entries (Some root.type) (roots (part under below)) (roots (part under (union below b)))
    (λ type. count_of-within type under below (union below b) (within-union under below b).0) here.0)
    (union-enough entries under below b one.0 two.0) (union-enough entries behind after a one.1 two.1)
union-enough entries (tree root under behind) (takes below after) (leaves a) here there =
    let one = EnoughBelow-parts entries root (part under below) (part behind after) here in
    EnoughBelow-tree entries root (part under below) (part behind (union after a)) here.0 one.0 (union-enough entries behind after a one.1 there)
union-enough entries (tree root under behind) (leaves after) none here there = here
union-enough entries (tree root under behind) (leaves after) (takes b a) here there =
    let two = EnoughBelow-parts entries root (part under b) (part behind a) there in
    EnoughBelow-tree entries root (part under b) (part behind (union after a)) there.0 two.0 (union-enough entries behind after a here two.1)
union-enough entries (tree root under behind) (leaves after) (leaves a) here there = union-enough entries behind after a here there

-- the empty set is within each
pub within-none : (forest : Forest) (set : SegmentSet) → IsWithin forest none set
within-none no_trees set = tt
within-none (tree root under behind) set = tt

-- sets that are within each other are the same part
pub same_part : (forest : Forest) (set other : SegmentSet) → IsWithin forest set other → IsWithin forest other set → part forest set ≡ part forest other
same_part no_trees set other one two = refl
same_part (tree root under behind) none none one two = refl
same_part (tree root under behind) none (takes b a) one two = absurd two
same_part (tree root under behind) none (leaves a) one two = sym (part-none behind) ∙ same_part behind none a (within-none behind a) two
same_part (tree root under behind) (takes below after) none one two = absurd one
same_part (tree root under behind) (takes below after) (takes b a) one two =
    ap (λ (f : Forest). tree root f (part behind after)) (same_part under below b one.0 two.0)
    ∙ ap (tree root (part under b)) (same_part behind after a one.1 two.1)
same_part (tree root under behind) (takes below after) (leaves a) one two = absurd one
same_part (tree root under behind) (leaves after) none one two = same_part behind after none one (within-none behind after) ∙ part-none behind
same_part (tree root under behind) (leaves after) (takes b a) one two = absurd two
same_part (tree root under behind) (leaves after) (leaves a) one two = same_part behind after a one two

-- a union is within each set that both are within
pub union-least : (forest : Forest) (one two set : SegmentSet) → IsWithin forest one set → IsWithin forest two set → IsWithin forest (union one two) set
union-least no_trees one two set here there = tt
union-least (tree root under behind) none two set here there = there
union-least (tree root under behind) (takes below after) two none here there = absurd here
union-least (tree root under behind) (takes below after) two (leaves s) here there = absurd here
union-least (tree root under behind) (takes below after) none (takes t s) here there = here
union-least (tree root under behind) (takes below after) (takes b a)
    (takes t s) here there = (union-least under below b t here.0 there.0, union-least behind after a s here.1 there.1)
union-least (tree root under behind) (takes below after) (leaves a) (takes t s) here there = (here.0, union-least behind after a s here.1 there)
union-least (tree root under behind) (leaves after) none set here there = here
union-least (tree root under behind) (leaves after) (takes b a) none here there = absurd there
union-least (tree root under behind) (leaves after) (takes b a) (leaves s) here there = absurd there
union-least (tree root under behind) (leaves after) (takes b a) (takes t s) here there = (there.0, union-least behind after a s here there.1)
union-least (tree root under behind) (leaves after) (leaves a) none here there = union-least behind after a none here there
union-least (tree root under behind) (leaves after) (leaves a) (takes t s) here there = union-least behind after a s here there
union-least (tree root under behind) (leaves after) (leaves a) (leaves s) here there = union-least behind after a s here there

-- what is within the empty set is within each
within_none : (forest : Forest) (one set : SegmentSet) → IsWithin forest one none → IsWithin forest one set
within_none no_trees one set here = tt
within_none (tree root under behind) none set here = tt
within_none (tree root under behind) (takes below after) set here = absurd here
within_none (tree root under behind) (leaves after) none here = here
within_none (tree root under behind) (leaves after) (takes t s) here = within_none behind after s here
within_none (tree root under behind) (leaves after) (leaves s) here = within_none behind after s here

-- a set that is within one that is within a third is within that
pub within_within : (forest : Forest) (one two set : SegmentSet) → IsWithin forest one two → IsWithin forest two set → IsWithin forest one set
within_within no_trees one two set here there = tt
within_within (tree root under behind) none two set here there = tt
within_within (tree root under behind) (takes below after) none set here there = absurd here
within_within (tree root under behind) (takes below after) (leaves a) set here there = absurd here
within_within (tree root under behind) (takes below after) (takes b a) none here there = absurd there
within_within (tree root under behind) (takes below after) (takes b a) (leaves s) here there = absurd there
within_within (tree root under behind) (takes below after) (takes b a)
    (takes t s) here there = (within_within under below b t here.0 there.0, within_within behind after a s here.1 there.1)
within_within (tree root under behind) (leaves after) none set here there = within_none (tree root under behind) (leaves after) set here
within_within (tree root under behind) (leaves after) (takes b a) none here there = absurd there
within_within (tree root under behind) (leaves after) (takes b a) (leaves s) here there = absurd there
within_within (tree root under behind) (leaves after) (takes b a) (takes t s) here there = within_within behind after a s here there.1
within_within (tree root under behind) (leaves after) (leaves a) none here there = within_within behind after a none here there
within_within (tree root under behind) (leaves after) (leaves a) (takes t s) here there = within_within behind after a s here there
within_within (tree root under behind) (leaves after) (leaves a) (leaves s) here there = within_within behind after a s here there

-- sets that are within others are within them together
pub union-within : (forest : Forest) (a b c d : SegmentSet) → IsWithin forest a c → IsWithin forest b d → IsWithin forest (union a b) (union c d)
union-within forest a b c d one two =
    union-least forest a b (union c d) (within_within forest a c (union c d) one (within-union forest c d).0)
    (within_within forest b d (union c d) two (within-union forest c d).1)

-- nothing more is in the union with the empty set
pub union-none : (set : SegmentSet) → union set none ≡ set
union-none none = refl
union-none (takes below after) = refl
union-none (leaves after) = refl

-- unions may be taken in any grouping
pub union_assoc : (one two three : SegmentSet) → union (union one two) three ≡ union one (union two three)
union_assoc none two three = refl
union_assoc (takes b a) none three = refl
union_assoc (takes b a) (takes d c) none = refl
union_assoc (takes b a) (takes d c) (takes f e) = ap (λ (s : SegmentSet). takes s (union (union a c) e)) (union_assoc b d f)
    ∙ ap (takes (union b (union d f))) (union_assoc a c e)
union_assoc (takes b a) (takes d c) (leaves e) = ap (takes (union b d)) (union_assoc a c e)
union_assoc (takes b a) (leaves c) none = refl
union_assoc (takes b a) (leaves c) (takes f e) = ap (takes (union b f)) (union_assoc a c e)
union_assoc (takes b a) (leaves c) (leaves e) = ap (takes b) (union_assoc a c e)
union_assoc (leaves a) none three = refl
union_assoc (leaves a) (takes d c) none = refl
union_assoc (leaves a) (takes d c) (takes f e) = ap (takes (union d f)) (union_assoc a c e)
union_assoc (leaves a) (takes d c) (leaves e) = ap (takes d) (union_assoc a c e)
union_assoc (leaves a) (leaves c) none = refl
union_assoc (leaves a) (leaves c) (takes f e) = ap (takes f) (union_assoc a c e)
union_assoc (leaves a) (leaves c) (leaves e) = ap leaves (union_assoc a c e)

-- what holds of the segments of two sets holds of those of both together
pub union-AllNodes : (P : Segment → Type 0) (forest : Forest) (set other : SegmentSet) → AllNodes P (part forest set) → AllNodes P (part forest other) →
    AllNodes P (part forest (union set other))
union-AllNodes P no_trees set other here there = tt
union-AllNodes P (tree root under behind) none other here there = there
union-AllNodes P (tree root under behind) (takes below after) none here there = here
union-AllNodes P (tree root under behind) (takes below after) (takes b a) here there =
    (here.0, union-AllNodes P under below b here.1 there.1, union-AllNodes P behind after a here.2 there.2)
union-AllNodes P (tree root under behind) (takes below after) (leaves a) here there = (here.0, here.1, union-AllNodes P behind after a here.2 there)
union-AllNodes P (tree root under behind) (leaves after) none here there = here
union-AllNodes P (tree root under behind) (leaves after) (takes b a) here there = (there.0, there.1, union-AllNodes P behind after a here there.2)
union-AllNodes P (tree root under behind) (leaves after) (leaves a) here there = union-AllNodes P behind after a here there
