use Rattle.listings.proofs.document_history.statuses_of.Goals as goal

pub returns-in-Incoming-clause-given : goal.returns-in-Incoming-clause-given
returns-in-Incoming-clause-given c = rw c.in-Incoming.is c.arrived.ensures.given
