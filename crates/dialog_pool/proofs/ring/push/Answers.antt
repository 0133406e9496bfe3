use Rattle.dialog_pool.proofs.TicketLemmas.{pushes}
use Rattle.dialog_pool.proofs.ring.push.Goals as goal

pub push_as-requires-clause-rule : goal.push_as-requires-clause-rule
push_as-requires-clause-rule g c = (pushes _ _ _ _ _ c.requires.pushes c.requires.number, λ items views kept at. tt)
