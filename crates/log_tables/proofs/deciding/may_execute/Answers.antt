use Rattle.std.proofs.Common.{ap, ◌∙◌}
use Rattle.plain_queues.specs.Offered.{is_free}
use Rattle.log_tables.specs.OfLog.{LogTablesOf}
use Rattle.log_tables.proofs.LawLemmas.{free-in}
use Rattle.log_tables.proofs.deciding.may_execute.Goals as goal

pub returns : goal.returns
returns g c =
    c.is_free.ensures
    ∙ ap (λ (its : LogTablesOf g.row.R-Tables.Denot). is_free c.args.tid its.tables.incoming) c.its.view_is
    ∙ free-in (g.R.Rules.meaning c.args.rules.now) (g.met.R.Rules.lawful c.args.rules.now) g.R.Tables.Application.stands c.args.system c.args.log.now
    c.args.its.now c.requires c.args.tid
