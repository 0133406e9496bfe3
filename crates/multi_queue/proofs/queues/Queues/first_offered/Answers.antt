use Rattle.std.proofs.Common.{◌≡◌, ap, sym, ◌∙◌, refl, subst, None}
use Rattle.std.specs.Option.{option_map}
use Rattle.std.specs.Prelude.{find}
use Rattle.std.proofs.lemmas.Bool.{both_ways}
use Rattle.plain_queues.specs.declared.queued_unit.QueuedUnit.{QueuedUnit}
use Rattle.plain_queues.specs.Queues.{QueuesOf}
use Rattle.plain_queues.specs.Offered.{is_ready, is_offered, first_offered}
use Rattle.plain_queues.proofs.OfferedLemmas.{none_ready-offered}
use Rattle.multi_queue.proofs.OfferLemmas.{first-offer, offered-place, no-offer}
use Rattle.multi_queue.proofs.queues.Queues.first_offered.Goals as goal

pub returns-in-Some-clause-first : goal.returns-in-Some-clause-first
returns-in-Some-clause-first c =
    sym (first-offer c.self.invariant c.in-Some.place c.index.result.now c.index.ensures c.in-Some.ensures.0 c.in-Some.ensures.1)
    ∙ ap (λ (queues : QueuesOf). first_offered queues) c.self.view_is

pub returns-in-Some-clause-offered : goal.returns-in-Some-clause-offered
returns-in-Some-clause-offered c =
    ap (λ (queues : QueuesOf). is_offered c.index.result.now.tid queues) (sym c.self.view_is)
    ∙ offered-place c.self.invariant c.in-Some.place c.index.result.now c.index.ensures c.in-Some.ensures.0

pub returns-in-Some-clause-none : goal.returns-in-Some-clause-none
returns-in-Some-clause-none c = (
  λ no. absurd (cc),
  λ none. absurd (both_ways (is_offered c.index.result.now.tid c.args.self.now) (none c.index.result.now.tid) (returns-in-Some-clause-offered c)),
)

pub returns-in-None-clause-first : goal.returns-in-None-clause-first
returns-in-None-clause-first c =
    ap (option_map (λ (unit : QueuedUnit). unit.tid)) (sym (no-offer c.self.invariant c.in-None.ensures))
    ∙ ap (λ (queues : QueuesOf). first_offered queues) c.self.view_is

pub returns-in-None-clause-none : goal.returns-in-None-clause-none
returns-in-None-clause-none c = (
  λ no tid. none_ready-offered tid c.args.self.now
      (subst (λ (queues : QueuesOf). find (is_ready queues) queues.units ≡ None) c.self.view_is (no-offer c.self.invariant c.in-None.ensures)),
  λ none. refl,
)
