use Rattle.std.specs.Prelude.{◌≡◌}
use Rattle.unit_landscape.specs.Quiet.{none_up}
use Rattle.unit_landscape.proofs.landscape.quiet.none_up.Given as goal

-- those that are left are as all are
abbrev pub invariant-loop-of_one : goal.invariant-loop-of_one
invariant-loop-of_one g l = none_up l.world l.tables.units l.of_one-iterator ≡ none_up l.world l.tables.units l.numbers.keys
