use Rattle.std.proofs.Common.{◌≡◌, map, take}
use Rattle.unit_core.specs.Systems.{lent}
use Rattle.system_tables.specs.Tables.{TablesOf}
use Rattle.unit_landscape.proofs.opening.breach.lent_units.Given as goal

-- the units so far
abbrev pub invariant-loop-its : goal.invariant-loop-its
invariant-loop-its g l = lent l.units.items ≡ map (λ (its : TablesOf g.row.A.Denot). its.units) (take l.its-index l.tables)
