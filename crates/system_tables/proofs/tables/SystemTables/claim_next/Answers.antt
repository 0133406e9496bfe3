use Rattle.system_tables.proofs.tables.SystemTables.claim_next.Goals as goal

-- the queues of the direction are those that were asked
pub returns-in-Outgoing-clause-none : goal.returns-in-Outgoing-clause-none
returns-in-Outgoing-clause-none g c = rw (c.in-Outgoing.is, ← c.self.view_is) c.next.ensures.none

pub returns-in-Incoming-clause-none : goal.returns-in-Incoming-clause-none
returns-in-Incoming-clause-none g c = rw (c.in-Incoming.is, ← c.self.view_is) c.next-in-Incoming.ensures.none
