use Rattle.std.proofs.Common.{◌≡◌, ap, sym, ◌∙◌}
use Rattle.plain_queues.specs.Queues.{QueuesOf}
use Rattle.plain_queues.specs.Offered.{is_free}
use Rattle.multi_queue.specs.declared.entry.Entry.{Entry}
use Rattle.multi_queue.specs.Seen.{is_free_of}
use Rattle.multi_queue.proofs.ReasonLemmas.{known-of}
use Rattle.multi_queue.proofs.FreeLemmas.{free-at, free-nowhere}
use Rattle.multi_queue.proofs.queues.Queues.is_free.Goals as goal

pub free_at-requires : goal.free_at-requires
free_at-requires c = record { known = known-of c.self.invariant.kept c.in-Some.place c.index.result.now c.index.ensures }

pub returns-in-Some : goal.returns-in-Some
returns-in-Some c =
    let at = c.in-Some.ensures in
    let same : c.index.result.now ≡ at.unit = cc (at.stands, c.index.ensures) in
    c.free_at.ensures ∙ ap (λ (u : Entry). is_free_of c.self.inside.counting.lanes c.in-Some.place u) same
    ∙ sym (free-at c.self.invariant c.args.tid c.in-Some.place at.unit at.names at.stands at.live)
    ∙ ap (λ (queues : QueuesOf). is_free c.args.tid queues) c.self.view_is

pub returns-in-None : goal.returns-in-None
returns-in-None c =
    sym (free-nowhere c.self.invariant c.args.tid c.in-None.ensures) ∙ ap (λ (queues : QueuesOf). is_free c.args.tid queues) c.self.view_is
