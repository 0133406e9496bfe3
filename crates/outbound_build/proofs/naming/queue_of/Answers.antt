use Rattle.outbound_build.proofs.NameLemmas.{queue-named}
use Rattle.outbound_build.proofs.naming.queue_of.Goals as goal

pub returns-in-Ok : goal.returns-in-Ok
returns-in-Ok c = queue-named c.args.name.now c.in-Ok.queue c.in-Ok.ensures.name.0 c.in-Ok.ensures.name.1
