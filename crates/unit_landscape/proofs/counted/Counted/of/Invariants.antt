use Rattle.std.proofs.Common.{take}
use Rattle.unit_landscape.specs.Counted.{AreCounted}
use Rattle.unit_landscape.proofs.counted.Counted.of.Given as goal

abbrev pub invariant-loop-place : goal.invariant-loop-place
invariant-loop-place l = AreCounted (take l.place l.systems) l.counted
