-- Levels that a data record can tell.
use Rattle.std.specs.Prelude.{ℕ, suc, ◌≤◌, ⊤}
use Rattle.segment_defs.specs.declared.limits.TheConstants.{MOST_LEVELS}
use Rattle.idoc_tree.specs.Forest.{Forest, no_trees, tree}

-- no segment of a forest is deeper than an IDoc type goes, where the roots are at this level
abbrev pub LevelsWithin : ℕ → Forest → Type 0
LevelsWithin level no_trees = ⊤
LevelsWithin level (tree root below after) = (level ≤ MOST_LEVELS) × LevelsWithin (suc level) below × LevelsWithin level after
