use Rattle.dialog_pool.proofs.TicketLemmas.{forks}
use Rattle.dialog_pool.proofs.ring.new_hand.Goals as goal

pub another-requires-clause-rule : goal.another-requires-clause-rule
another-requires-clause-rule g c = forks _ _ _
