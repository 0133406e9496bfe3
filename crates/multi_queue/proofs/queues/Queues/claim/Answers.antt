use Rattle.plain_queues.proofs.OfferedLemmas.{none-IsNone, offered-free}
use Rattle.multi_queue.proofs.queues.Queues.claim.Goals as goal

-- an offered unit is free
pub write_claim-requires : goal.write_claim-requires
write_claim-requires c = record { free = λ busy. offered-free c.args.tid c.args.self.now (c.why_not.ensures.none.0 (none-IsNone c.why_not.result c.in-None.is)) }
