use Rattle.std.proofs.Common.{List, suc, sym, ap, subst, ◌∙◌}
use Rattle.outbound_build.specs.declared.added.OutUnit.{OutUnit}
use Rattle.outbound_build.specs.declared.batch.Batch.{Batch}
use Rattle.outbound_build.specs.Added.{numbered}
use Rattle.outbound_build.specs.Addressed.{AreMadeFor, AreUnitsAddressed}
use Rattle.outbound_build.specs.Carried.{AreCarried}
use Rattle.outbound_build.specs.Queued.{AreQueued}
use Rattle.outbound_build.proofs.AddressedLemmas.{added-addressed, added-made}
use Rattle.outbound_build.proofs.CarriedLemmas.{added-carried}
use Rattle.outbound_build.proofs.QueuedLemmas.{added-queued}
use Rattle.outbound_build.proofs.outbox.Outbox.added.Goals as goal

pub returns-clause-queued : goal.returns-clause-queued
returns-clause-queued c =
    subst (AreQueued c.args.model.now c.args.next.now)
    (sym (c.in_ok-units.ensures.units ∙ ap (λ (b : Batch). numbered c.args.system (suc c.args.self.now.units) b.parcels) c.in_ok-batch.ensures))
    (added-queued c.args.model.now c.args.system c.args.self.now (suc c.args.self.now.units) c.args.next.now)

pub returns-clause-made_for : goal.returns-clause-made_for
returns-clause-made_for c =
    subst (λ (b : Batch). AreMadeFor c.args.model.now c.args.system b.documents) (sym c.in_ok-batch.ensures)
    (added-made c.args.model.now c.as_lists-rules.ensures.kept c.args.system c.args.self.now c.args.next.now)

pub returns-clause-addressed : goal.returns-clause-addressed
returns-clause-addressed c waits =
    subst (AreUnitsAddressed c.args.model.now c.args.system)
    (sym (c.in_ok-units.ensures.units ∙ ap (λ (b : Batch). numbered c.args.system (suc c.args.self.now.units) b.parcels) c.in_ok-batch.ensures))
    (added-addressed c.args.model.now c.as_lists-rules.ensures.kept c.args.system c.args.self.now (suc c.args.self.now.units) c.args.next.now waits)

pub returns-clause-carried : goal.returns-clause-carried
returns-clause-carried c =
    let model = c.args.model.now in
    let system = c.args.system in
    let outbox = c.args.self.now in
    let next = c.args.next.now in
    let number = suc outbox.units in
    subst (λ (us : List OutUnit). AreCarried model system outbox.waiting next (record { documents = c.in_ok-batch.batch.documents; units = us }))
    (sym c.in_ok-units.ensures.units)
    (subst (λ (b : Batch). AreCarried model system outbox.waiting next (record { documents = b.documents; units = numbered system number b.parcels }))
    (sym c.in_ok-batch.ensures) (added-carried model c.as_lists-rules.ensures.kept system outbox number next))
