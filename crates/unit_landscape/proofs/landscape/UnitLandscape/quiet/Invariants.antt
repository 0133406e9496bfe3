use Rattle.unit_landscape.proofs.QuietLemmas.{AreQuietTo}
use Rattle.unit_landscape.proofs.landscape.UnitLandscape.quiet.Given as goal

-- nothing is left to do at the systems so far
abbrev pub invariant-loop-number : goal.invariant-loop-number
invariant-loop-number g l = AreQuietTo (g.R.Rules.meaning l.self.world.rules) l.self.world l.number
