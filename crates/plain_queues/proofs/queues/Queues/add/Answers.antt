use Rattle.std.proofs.Common.{subst, sym, ap, ◌∙◌, List}
use Rattle.unit_core.specs.Once.{NoneTwice}
use Rattle.plain_queues.specs.declared.queued_unit.QueuedUnit.{QueuedUnit}
use Rattle.plain_queues.specs.Queues.{QueuesOf, tids_of, unit_of}
use Rattle.plain_queues.specs.Changes.{new_unit}
use Rattle.plain_queues.proofs.UnitLemmas.{NoneTwice-added}
use Rattle.plain_queues.proofs.queues.Queues.add.Goals as goal

-- the new id is not among those before
pub invariant_of-self-2 : goal.invariant_of-self-2
invariant_of-self-2 c =
    subst (λ (units : List QueuedUnit). NoneTwice (tids_of units)) (sym c.in_ok-push.ensures.ok)
    (NoneTwice-added c.self.inside.units (new_unit c.args.tid c.in_ok-keys.keys) c.self.invariant
    (ap (λ (queues : QueuesOf). unit_of c.args.tid queues) c.self.view_is ∙ c.requires.new))
