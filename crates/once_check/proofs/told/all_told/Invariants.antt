use Rattle.std.proofs.Common.{take}
use Rattle.unit_core.specs.Systems.{lent}
use Rattle.once_check.specs.steps.ToldIds.{IsToldBy}
use Rattle.once_check.proofs.SystemsLemmas.{AreMadeOf}
use Rattle.once_check.proofs.told.all_told.Given as goal

-- the tables are those of the logs so far
abbrev pub invariant-loop-log : goal.invariant-loop-log
invariant-loop-log l = AreMadeOf IsToldBy (lent (take l.log-index l.logs)) l.all
