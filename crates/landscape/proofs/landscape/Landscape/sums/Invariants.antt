use Rattle.std.proofs.Common.{◌≡◌}
use Rattle.landscape.specs.Counted.{sums_to}
use Rattle.landscape.proofs.landscape.Landscape.sums.Given as goal

abbrev pub invariant-loop-number : goal.invariant-loop-number
invariant-loop-number g l = l.all ≡ sums_to l.self.world l.number
