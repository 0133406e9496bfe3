use Rattle.std.proofs.Common.{◌≡◌, ◌++◌, map}
use Rattle.outbound_build.proofs.committing.add_units.Given as goal

abbrev pub invariant-loop-one : goal.invariant-loop-one
invariant-loop-one l = l.units ≡ l.fn.units ++ map (λ one. one.unit) l.yielded
