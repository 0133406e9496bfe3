use Rattle.std.proofs.Common.{◌≡◌, ap, sym, ◌∙◌, Some}
use Rattle.plain_queues.specs.Queues.{QueuesOf}
use Rattle.plain_queues.specs.declared.not_offered.NotOffered.TheVariants.{Unknown}
use Rattle.plain_queues.specs.Offered.{why_not}
use Rattle.plain_queues.proofs.OfferedLemmas.{IsNone-offered}
use Rattle.multi_queue.specs.declared.entry.Entry.{Entry}
use Rattle.multi_queue.specs.Seen.{why_not_of}
use Rattle.multi_queue.proofs.ReasonLemmas.{known-of, headed-all, why-at, why-nowhere}
use Rattle.multi_queue.proofs.queues.Queues.why_not.Goals as goal

pub why_not_at-requires-clause-known : goal.why_not_at-requires-clause-known
why_not_at-requires-clause-known c = known-of c.self.invariant.kept c.in-Some.place c.index.result.now c.index.ensures

pub why_not_at-requires-clause-headed : goal.why_not_at-requires-clause-headed
why_not_at-requires-clause-headed c = headed-all c.self.invariant.kept

pub returns-in-Some-clause-why : goal.returns-in-Some-clause-why
returns-in-Some-clause-why c =
    let at = c.in-Some.ensures in
    let same : c.index.result.now ≡ at.unit = cc (at.stands, c.index.ensures) in
    c.why_not_at.ensures ∙ ap (λ (u : Entry). why_not_of c.self.inside.counting.units c.self.inside.counting.lanes c.in-Some.place u) same
    ∙ sym (why-at c.self.invariant c.args.tid c.in-Some.place at.unit at.names at.stands at.live)
    ∙ ap (λ (queues : QueuesOf). why_not c.args.tid queues) c.self.view_is

pub returns-in-None-clause-why : goal.returns-in-None-clause-why
returns-in-None-clause-why c =
    sym (why-nowhere c.self.invariant c.args.tid c.in-None.ensures) ∙ ap (λ (queues : QueuesOf). why_not c.args.tid queues) c.self.view_is

pub returns-in-Some-clause-none : goal.returns-in-Some-clause-none
returns-in-Some-clause-none c = IsNone-offered c.args.tid c.args.self.now c.why_not_at.result (returns-in-Some-clause-why c)

pub returns-in-None-clause-none : goal.returns-in-None-clause-none
returns-in-None-clause-none c = IsNone-offered c.args.tid c.args.self.now (Some Unknown) (returns-in-None-clause-why c)
