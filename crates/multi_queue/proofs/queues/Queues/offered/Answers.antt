use Rattle.std.proofs.Common.{ap, sym, ◌∙◌}
use Rattle.plain_queues.specs.Queues.{QueuesOf}
use Rattle.plain_queues.specs.Offered.{is_offered}
use Rattle.multi_queue.proofs.OfferLemmas.{offered-at, offered-nowhere}
use Rattle.multi_queue.proofs.queues.Queues.offered.Goals as goal

pub returns-in-Some : goal.returns-in-Some
returns-in-Some c =
    let at = c.in-Some.ensures in
    c.ready_at.ensures ∙ sym (offered-at c.self.invariant c.args.tid c.in-Some.place at.unit at.names at.stands at.live)
    ∙ ap (λ (queues : QueuesOf). is_offered c.args.tid queues) c.self.view_is

pub returns-in-None : goal.returns-in-None
returns-in-None c =
    sym (offered-nowhere c.self.invariant c.args.tid c.in-None.ensures) ∙ ap (λ (queues : QueuesOf). is_offered c.args.tid queues) c.self.view_is
