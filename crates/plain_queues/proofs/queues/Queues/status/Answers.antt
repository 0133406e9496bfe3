use Rattle.std.proofs.Common.{sym}
use Rattle.plain_queues.proofs.OfferedLemmas.{status-there, status-empty}
use Rattle.plain_queues.proofs.queues.Queues.status.Goals as goal

pub returns-in-Some-clause-none : goal.returns-in-Some-clause-none
returns-in-Some-clause-none c = status-there c.args.key c.args.self.now c.in-Some.head.now c.status_by_head.result (sym c.in-Some.ensures)

pub returns-in-None-clause-none : goal.returns-in-None-clause-none
returns-in-None-clause-none c = status-empty c.args.key c.args.self.now (sym c.in-None.ensures)
