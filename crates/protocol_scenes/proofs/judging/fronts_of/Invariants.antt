use Rattle.std.proofs.Common.{◌≡◌, map, take}
use Rattle.unit_core.specs.Systems.{lent}
use Rattle.protocol_scenes.proofs.judging.fronts_of.Given as goal

-- the lists so far have their fronts
abbrev pub invariant-loop-units : goal.invariant-loop-units
invariant-loop-units l = lent l.fronts.items ≡ map (take l.committed) (take l.units-index l.lists)
