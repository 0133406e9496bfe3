use Rattle.std.proofs.Common.{[]}
use Rattle.segment_defs.specs.IdocType.{path_behind}
use Rattle.segment_defs.proofs.TypeRuleLemmas.{left_above, IsWalk}
use Rattle.segment_defs.proofs.type_rules.levels_to.Given as goal

abbrev pub invariant-loop-above : goal.invariant-loop-above
invariant-loop-above l = IsWalk l.entries l.place l.levels l.above (path_behind 0 [] l.entries)

abbrev pub decreases-loop-above : goal.decreases-loop-above
decreases-loop-above l = left_above l.above
