use Rattle.std.proofs.Common.{subst, sym, refl}
use Rattle.std.proofs.lemmas.Bool.{both_ways}
use Rattle.unit_core.specs.Once.{NoneTwice}
use Rattle.plain_queues.specs.Queues.{QueuesOf, tids_of}
use Rattle.plain_queues.specs.Offered.{is_offered}
use Rattle.plain_queues.proofs.OfferedLemmas.{ready-offered, none_ready-offered}
use Rattle.plain_queues.proofs.queues.Queues.first_offered.Goals as goal

pub returns-in-Some-clause-offered : goal.returns-in-Some-clause-offered
returns-in-Some-clause-offered c =
    ready-offered c.args.self.now c.in-Some.unit.now (subst (λ (queues : QueuesOf). NoneTwice (tids_of queues.units)) c.self.view_is c.self.invariant)
    (sym c.in-Some.ensures)

pub returns-in-Some-clause-none : goal.returns-in-Some-clause-none
returns-in-Some-clause-none c = (
  λ no. absurd (cc),
  λ none. absurd (both_ways (is_offered c.in-Some.unit.now.tid c.args.self.now) (none c.in-Some.unit.now.tid) (returns-in-Some-clause-offered c)),
)

pub returns-in-None-clause-none : goal.returns-in-None-clause-none
returns-in-None-clause-none c = (λ no tid. none_ready-offered tid c.args.self.now (sym c.in-None.ensures), λ none. refl)
