use Rattle.std.specs.Prelude.{slice_index_or}
use Rattle.std.proofs.Common.{◌≡◌, ◌-◌}
use Rattle.unit_landscape.specs.Counted.{sum_to}
use Rattle.unit_landscape.proofs.counted.sum.Given as goal

abbrev pub invariant-loop-place : goal.invariant-loop-place
invariant-loop-place l = l.all ≡ sum_to (λ system. slice_index_or l.numbers (system - 1) 0) l.place
