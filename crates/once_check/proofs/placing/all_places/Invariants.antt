use Rattle.std.proofs.Common.{take}
use Rattle.unit_core.specs.Systems.{lent}
use Rattle.once_check.specs.steps.Places.{ArePlacesOf}
use Rattle.once_check.proofs.SystemsLemmas.{AreMadeOf}
use Rattle.once_check.proofs.placing.all_places.Given as goal

-- the units of the systems so far have their places
abbrev pub invariant-loop-units : goal.invariant-loop-units
invariant-loop-units l = AreMadeOf ArePlacesOf (lent (take l.units-index l.committed)) l.all
