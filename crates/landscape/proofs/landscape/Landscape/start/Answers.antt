use Rattle.std.specs.Prelude.{⊤}
use Rattle.std.proofs.Common.{ℕ, ap, sym, subst}
use Rattle.ale_base.specs.declared.way.Way.{Way}
use Rattle.unit_landscape.specs.KeptWorlds.{KeptOf}
use Rattle.document_state.specs.declared.document_tables.DocumentTables.{DocumentTables}
use Rattle.document_state.specs.declared.model_rules.ModelRules.{ModelRules}
use Rattle.unit_core.specs.declared.records.Record.TheVariants as log
use Rattle.landscape.specs.Carried.{CarriedAs, DiskAsked, asked_at, operator_event}
use Rattle.landscape.specs.Operator.{asked_queue, start_of}
use Rattle.unit_landscape.proofs.GrownLemmas.{grown-operated}
use Rattle.landscape.proofs.BegunLemmas.{begun-grown, is_lawful, meaning}
use Rattle.landscape.proofs.OperatorLemmas.{start-carried, start-disk}
use Rattle.trfc_protocol.specs.declared.event.Event.TheVariants as event
use Rattle.trfc_protocol.specs.declared.event.Action.TheVariants.{Append}
use Rattle.landscape.proofs.SoundLemmas.{sound-event, sound-none}
use Rattle.landscape.proofs.landscape.Landscape.start.Goals as goal

pub invariant_of-self : goal.invariant_of-self
invariant_of-self g c =
    begun-grown c.self.inside.units.world c.start.new.self.world c.self.invariant
    (grown-operated meaning is_lawful g.V.Volumes.disk c.self.inside.units c.start.new.self c.world.ensures.safe.safe c.args.system
    (log.Start c.queue_to-way.result.0 c.queue_to-way.result.1 c.in-Ok.name) c.start.result c.start.ensures.ends)

pub returns-clause-ends : goal.returns-clause-ends
returns-clause-ends g c =
    subst (λ (k : KeptOf ModelRules DocumentTables g.row.V.Denot). CarriedAs g.V.Volumes.disk k c.start.new.self c.args.system (operator_event c.args.system)
    (asked_at k.world c.args.system (λ log. asked_queue k.world.rules.systems c.args.system c.args.destination c.args.name.now
    (start_of c.args.destination c.args.name.now))) {T = Unit {0}} (λ done. ⊤) c.refused.result) c.self.view_is
    (subst (CarriedAs g.V.Volumes.disk c.self.inside.units c.start.new.self c.args.system (operator_event c.args.system)
    (asked_at c.self.inside.units.world c.args.system (λ log. asked_queue c.self.inside.units.world.rules.systems c.args.system c.args.destination
    c.args.name.now (start_of c.args.destination c.args.name.now))) {T = Unit {0}} (λ done. ⊤))
    (sym c.refused.ensures)
    (start-carried g.V.Volumes.disk c.self.inside.units c.start.new.self c.world.ensures.safe c.args.system c.args.destination c.args.name.now c.in-Ok.name
    c.queue_to-way.result.0 c.queue_to-way.result.1 (ap (λ (t : Way × ℕ). t.0) c.queue_to-way.ensures) (ap (λ (t : Way × ℕ). t.1) c.queue_to-way.ensures)
    c.in-Ok.ensures.name
    c.start.result c.start.ensures.ends))

pub returns-clause-disk : goal.returns-clause-disk
returns-clause-disk g c =
    subst (λ (k : KeptOf ModelRules DocumentTables g.row.V.Denot). DiskAsked g.V.Volumes.disk k
    c.start.new.self c.args.system
    (asked_at k.world c.args.system (λ log. asked_queue k.world.rules.systems c.args.system c.args.destination c.args.name.now
    (start_of c.args.destination c.args.name.now)))) c.self.view_is
    (start-disk g.V.Volumes.disk c.self.inside.units c.start.new.self c.world.ensures.safe c.args.system c.args.destination c.args.name.now c.in-Ok.name
    c.queue_to-way.result.0 c.queue_to-way.result.1 (ap (λ (t : Way × ℕ). t.0) c.queue_to-way.ensures) (ap (λ (t : Way × ℕ). t.1) c.queue_to-way.ensures)
    c.in-Ok.ensures.name
    c.start.ensures.disk)

pub returns-then-not-is_up-clause-sound : goal.returns-then-not-is_up-clause-sound
returns-then-not-is_up-clause-sound g c =
    sound-none g.V.Volumes.disk g.met.V.Volumes.only_now c.self.inside.units c.args.self.now c.self.view_is c.world.ensures.safe c.world.ensures.kept.on_volumes

pub returns-in-Err-clause-sound : goal.returns-in-Err-clause-sound
returns-in-Err-clause-sound g c =
    sound-none g.V.Volumes.disk g.met.V.Volumes.only_now c.self.inside.units c.args.self.now c.self.view_is c.world.ensures.safe c.world.ensures.kept.on_volumes

pub returns-clause-sound : goal.returns-clause-sound
returns-clause-sound g c =
    sound-event g.V.Volumes.disk g.met.V.Volumes.only_now c.self.inside.units c.args.self.now c.self.view_is c.world.ensures.safe
    c.world.ensures.kept.on_volumes
    c.start.new.self (event.Operator (Append c.args.system (log.Start c.queue_to-way.result.0 c.queue_to-way.result.1 c.in-Ok.name))) c.start.ensures.disk
