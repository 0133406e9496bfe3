use Rattle.std.specs.Prelude.{drop, map}
use Rattle.std.proofs.Common.{◌≡◌, ◌++◌}
use Rattle.outbound_build.specs.declared.added.OutUnit.{OutUnit}
use Rattle.landscape.proofs.commands.units_of.Given as goal

abbrev pub invariant-loop-one : goal.invariant-loop-one
invariant-loop-one l = l.units ++ map (λ (one : OutUnit). one.unit) (drop l.one-index l.added.units) ≡ map (λ (one : OutUnit). one.unit) l.added.units
