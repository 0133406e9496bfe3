use Rattle.std.specs.Prelude.{not}
use Rattle.std.proofs.Common.{subst, sym, ap, ◌∙◌, List, rules}
use Rattle.std.proofs.lemmas.Fn.{filter_same}
use Rattle.ale_base.specs.Tid.{is_tid}
use Rattle.unit_core.specs.Once.{NoneTwice}
use Rattle.plain_queues.specs.declared.queued_unit.QueuedUnit.{QueuedUnit}
use Rattle.plain_queues.specs.Queues.{QueuesOf, tids_of}
use Rattle.plain_queues.specs.Changes.{finished}
use Rattle.plain_queues.proofs.UnitLemmas.{NoneTwice-kept}
use Rattle.plain_queues.proofs.queues.Queues.finish.Goals as goal

pub invariant_of-self : goal.invariant_of-self
invariant_of-self g c =
    subst (λ (units : List QueuedUnit). NoneTwice (tids_of units)) (sym (filter_same _ _ _ (λ x b f' k. search rules) _ _ c.retain.ensures))
    (NoneTwice-kept (λ (unit : QueuedUnit). not (is_tid unit.tid c.args.claim.tid)) c.self.inside.units c.self.invariant)

pub returns-clause-finished : goal.returns-clause-finished
returns-clause-finished g c =
    ap (λ (units : List QueuedUnit). record { units = units; stops = c.self.inside.stops }) (filter_same _ _ _ (λ x b f' k. search rules) _ _ c.retain.ensures)
    ∙ ap (λ (queues : QueuesOf). finished c.args.claim.tid queues) c.self.view_is
