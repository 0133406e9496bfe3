-- What may be left of a forest, tree by tree: a relation, beside the functions that say what is left.
use Rattle.std.specs.Prelude.{◌≡◌, ◌⊎◌}
use Rattle.idoc_tree.specs.Forest.{Segment, Forest, no_trees, tree}

-- Each tree of a forest goes, with all below its root, or it stays in its place. A root that goes may go, one that stays becomes what
-- it may become, and what is below it is left in the same way. Nothing else is left.
abbrev pub IsLeftOf : (Segment → Type 0) → (Segment → Segment → Type 0) → Forest → Forest → Type 0
IsLeftOf MayGo MayBecome no_trees left = left ≡ no_trees
IsLeftOf MayGo MayBecome (tree root below after) left =
    (MayGo root × IsLeftOf MayGo MayBecome after left)
    ⊎ ((new : Segment) × (under : Forest) × (behind : Forest) × (left ≡ tree new under behind) × MayBecome root new × IsLeftOf MayGo MayBecome below under
    × IsLeftOf MayGo MayBecome after behind)

-- no tree of a forest goes, and each of its segments becomes what it may become
abbrev pub IsChangedFrom : (Segment → Segment → Type 0) → Forest → Forest → Type 0
IsChangedFrom MayBecome old new = IsLeftOf (λ segment. ⊥) MayBecome old new
