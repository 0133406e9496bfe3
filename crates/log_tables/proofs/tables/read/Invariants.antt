use Rattle.std.proofs.Common.{take}
use Rattle.log_tables.specs.OfLog.{IsRead}
use Rattle.log_tables.proofs.tables.read.Given as goal

-- the records so far were read
abbrev pub invariant-loop-place : goal.invariant-loop-place
invariant-loop-place g l = IsRead (g.R.Rules.meaning l.rules) g.R.Tables.Application.stands l.system (take l.place l.log) l.its
