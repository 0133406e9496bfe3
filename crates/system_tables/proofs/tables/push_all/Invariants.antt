use Rattle.std.proofs.Common.{◌≡◌, ◌++◌, take}
use Rattle.system_tables.proofs.tables.push_all.Given as goal

-- the units so far stand behind those there
abbrev pub invariant-loop-unit : goal.invariant-loop-unit
invariant-loop-unit l = l.units ≡ l.initial.units ++ take l.unit-index l.more
