use Rattle.std.proofs.Common.{◌≡◌, take}
use Rattle.log_tables.specs.OfLog.{IsRead}
use Rattle.log_reading.specs.Bad.{moment_before}
use Rattle.log_reading.specs.Reading.{AreGoodTo}
use Rattle.log_reading.proofs.reading.first_bad.Given as goal

-- the records so far are good, and were read
abbrev pub invariant-loop-place : goal.invariant-loop-place
invariant-loop-place g l =
    (l.before ≡ moment_before l.moments l.place)
    × AreGoodTo (g.R.Rules.meaning l.rules) l.system l.text l.moments l.log l.place
    × IsRead (g.R.Rules.meaning l.rules) g.R.Tables.Application.stands l.system (take l.place l.log) l.its
