use Rattle.dialog_pool.proofs.TicketLemmas.{pops}
use Rattle.dialog_pool.proofs.ring.pop.Goals as goal

pub pop_as-requires-clause-rule : goal.pop_as-requires-clause-rule
pop_as-requires-clause-rule g c = (pops _ _ _, λ items views kept at. tt)
