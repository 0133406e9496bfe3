use Rattle.std.proofs.Common.{ap, ◌∙◌}
use Rattle.std.specs.Prelude.{is_some}
use Rattle.plain_queues.specs.Queues.{unit_of}
use Rattle.system_tables.specs.Tables.{queues_of}
use Rattle.log_tables.specs.OfLog.{LogTablesOf}
use Rattle.log_tables.proofs.LawLemmas.{open-at}
use Rattle.log_tables.proofs.deciding.is_open_at.Goals as goal

pub returns : goal.returns
returns g c =
    c.is_outstanding.ensures
    ∙ ap (λ (its : LogTablesOf g.row.R-Tables.Denot). is_some (unit_of c.args.tid (queues_of c.args.way its.tables))) c.its.view_is
    ∙ open-at (g.R.Rules.meaning c.args.rules.now) (g.met.R.Rules.lawful c.args.rules.now) g.R.Tables.Application.stands c.args.system c.args.log.now
    c.args.its.now c.requires c.args.way c.args.tid
