use Rattle.std.proofs.Common.{[], sym, subst}
use Rattle.log_tables.specs.OfLog.{LogTablesOf, IsRead}
use Rattle.log_tables.proofs.ReadLemmas.{IsRead-nothing}
use Rattle.log_reading.proofs.reading.read_log.Goals as goal

pub first_bad-requires-clause-read : goal.first_bad-requires-clause-read
first_bad-requires-clause-read g c =
    subst (λ (its : LogTablesOf g.row.R-Tables.Denot). IsRead (g.R.Rules.meaning c.args.rules.now) g.R.Tables.Application.stands c.args.system [] its)
    (sym c.new-its.ensures)
    (IsRead-nothing (g.R.Rules.meaning c.args.rules.now) (g.met.R.Rules.lawful c.args.rules.now) g.R.Tables.Application.stands c.args.system
    c.args.application c.requires.begins)

pub returns-in-None : goal.returns-in-None
returns-in-None g c = (c.in_ok-bad.ensures.good c.in-None.is, c.in_ok-bad.ensures.read c.in-None.is)
