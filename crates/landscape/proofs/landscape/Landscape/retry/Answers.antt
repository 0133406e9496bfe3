use Rattle.std.specs.Prelude.{⊤}
use Rattle.std.proofs.Common.{sym, subst}
use Rattle.unit_landscape.specs.KeptWorlds.{KeptOf}
use Rattle.document_state.specs.declared.document_tables.DocumentTables.{DocumentTables}
use Rattle.document_state.specs.declared.model_rules.ModelRules.{ModelRules}
use Rattle.unit_core.specs.declared.records.Record.TheVariants as log
use Rattle.landscape.specs.Carried.{CarriedAs, DiskAsked, asked_at, operator_event}
use Rattle.landscape.specs.Operator.{asked_retry}
use Rattle.unit_landscape.proofs.GrownLemmas.{grown-operated}
use Rattle.landscape.proofs.BegunLemmas.{begun-grown, is_lawful, meaning}
use Rattle.landscape.proofs.OperatorLemmas.{retry-carried, retry-disk}
use Rattle.trfc_protocol.specs.declared.event.Event.TheVariants as event
use Rattle.trfc_protocol.specs.declared.event.Action.TheVariants.{Append}
use Rattle.landscape.proofs.SoundLemmas.{sound-event}
use Rattle.landscape.proofs.landscape.Landscape.retry.Goals as goal

pub invariant_of-self : goal.invariant_of-self
invariant_of-self g c =
    begun-grown c.self.inside.units.world c.retry.new.self.world c.self.invariant
    (grown-operated meaning is_lawful g.V.Volumes.disk c.self.inside.units c.retry.new.self c.world.ensures.safe.safe c.args.system
    (log.Retry c.way_at.result c.args.tid) c.retry.result c.retry.ensures.ends)

pub returns-clause-ends : goal.returns-clause-ends
returns-clause-ends g c =
    subst (λ (k : KeptOf ModelRules DocumentTables g.row.V.Denot). CarriedAs g.V.Volumes.disk k c.retry.new.self c.args.system (operator_event c.args.system)
    (asked_at k.world c.args.system (asked_retry k.world.rules.systems c.args.system c.args.tid)) {T = Unit {0}} (λ done. ⊤) c.refused.result) c.self.view_is
    (subst (CarriedAs g.V.Volumes.disk c.self.inside.units c.retry.new.self c.args.system (operator_event c.args.system)
    (asked_at c.self.inside.units.world c.args.system (asked_retry c.self.inside.units.world.rules.systems c.args.system c.args.tid)) {T = Unit {0}}
    (λ done. ⊤))
    (sym c.refused.ensures)
    (retry-carried g.V.Volumes.disk c.self.inside.units c.retry.new.self c.world.ensures.safe c.args.system c.args.tid c.way_at.result c.way_at.ensures
    c.retry.result c.retry.ensures.ends))

pub returns-clause-disk : goal.returns-clause-disk
returns-clause-disk g c =
    subst (λ (k : KeptOf ModelRules DocumentTables g.row.V.Denot). DiskAsked g.V.Volumes.disk k
    c.retry.new.self c.args.system
    (asked_at k.world c.args.system (asked_retry k.world.rules.systems c.args.system c.args.tid))) c.self.view_is
    (retry-disk g.V.Volumes.disk c.self.inside.units c.retry.new.self c.world.ensures.safe c.args.system c.args.tid c.way_at.result c.way_at.ensures
    c.retry.ensures.disk)

pub returns-clause-sound : goal.returns-clause-sound
returns-clause-sound g c =
    sound-event g.V.Volumes.disk g.met.V.Volumes.only_now c.self.inside.units c.args.self.now c.self.view_is c.world.ensures.safe
    c.world.ensures.kept.on_volumes
    c.retry.new.self (event.Operator (Append c.args.system (log.Retry c.way_at.result c.args.tid))) c.retry.ensures.disk
