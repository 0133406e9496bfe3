use Rattle.std.specs.Prelude.{IfSome}
use Rattle.std.proofs.Common.{◌≡◌, true, Some, sym, subst}
use Rattle.unit_core.specs.declared.ale_unit.AleUnit.{AleUnit}
use Rattle.trfc_protocol.specs.declared.world.World.{World}
use Rattle.trfc_protocol.specs.declared.event.Event.TheVariants as event
use Rattle.trfc_protocol.specs.RecordOf.{Writing, record_of}
use Rattle.trfc_protocol.specs.Worlds.{committed_unit, is_up, log_of, offers_now}
use Rattle.unit_landscape.specs.Calls.{finish_event, is_offered_function}
use Rattle.unit_landscape.specs.Kept.{IsLandscape}
use Rattle.unit_landscape.proofs.HappenedLemmas.{disk-seen}
use Rattle.document_state.specs.Made.{GoesWith}
use Rattle.unit_landscape.specs.KeptWorlds.{KeptOf}
use Rattle.document_state.specs.declared.document_tables.DocumentTables.{DocumentTables}
use Rattle.document_state.specs.declared.model_rules.ModelRules.{ModelRules}
use Rattle.landscape.specs.Begun.{AreBegun}
use Rattle.landscape.specs.Working.{IsMadeFor}
use Rattle.unit_landscape.proofs.GrownLemmas.{grown-finished}
use Rattle.landscape.proofs.BegunLemmas.{begun-grown, is_lawful, meaning}
use Rattle.landscape.proofs.WorkingLemmas.{finish-goes, finish-offered}
use Rattle.landscape.proofs.SoundLemmas.{sound-event, sound-none}
use Rattle.landscape.proofs.landscape.Landscape.finish.Goals as goal

pub returns-in_default-clause-disk : goal.returns-in_default-clause-disk
returns-in_default-clause-disk g c =
    disk-seen g.V.Volumes.disk g.met.V.Volumes.only_now
    meaning is_lawful c.self.inside.units c.args.self.now c.self.view_is c.world.ensures.safe c.world.ensures.kept.on_volumes
    (λ (world : World ModelRules). finish_event (meaning world.rules) world c.args.claim)

pub finish-requires-clause-offered : goal.finish-requires-clause-offered
finish-requires-clause-offered g c stands =
    let safe = subst (λ (k : KeptOf ModelRules DocumentTables g.row.V.Denot). IsLandscape meaning k.world) c.self.view_is c.world.ensures.safe in
    let begun = subst (λ (k : KeptOf ModelRules DocumentTables g.row.V.Denot). AreBegun k.world) c.self.view_is c.self.invariant in
    subst (λ (k : KeptOf ModelRules DocumentTables g.row.V.Denot). c.offers_unit-offered.result ≡ is_offered_function (meaning k.world.rules) k.world
    c.args.claim.tid) (sym c.self.view_is)
    (finish-offered c.args.self.now.world safe begun c.args.claim c.in-Some.kind c.in-Some.ensures c.offers_unit-offered.result
    (subst (λ t. IfSome (committed_unit (meaning c.args.self.now.world.rules) c.args.self.now.world t)
    (λ (u : AleUnit). is_up c.args.self.now.world u.receiver ≡ true
    → c.offers_unit-offered.result ≡ offers_now (meaning c.args.self.now.world.rules) c.args.self.now.world u.receiver u.function)) c.tid.ensures
    c.offers_unit-offered.ensures))

pub finish-requires-clause-goes : goal.finish-requires-clause-goes
finish-requires-clause-goes g c stands it writes its there =
    let safe = subst (λ (k : KeptOf ModelRules DocumentTables g.row.V.Denot). IsLandscape meaning k.world) c.self.view_is c.world.ensures.safe in
    let begun = subst (λ (k : KeptOf ModelRules DocumentTables g.row.V.Denot). AreBegun k.world) c.self.view_is c.self.invariant in
    subst (λ (k : KeptOf ModelRules DocumentTables g.row.V.Denot). (it : Writing) → record_of (meaning k.world.rules) k.world
    (event.Finish c.args.claim.number) ≡ Some it
    → GoesWith (log_of k.world it.system) it.next c.in-Ok.made) (sym c.self.view_is)
    (λ it writes. finish-goes c.args.self.now.world safe begun c.args.claim c.in-Some.kind c.in-Some.ensures c.args.prepared.postings c.requires.prepared
    c.in-Ok.made
    (subst (λ t. IsMadeFor c.args.self.now.world c.in-Some.kind t c.args.prepared.postings c.in-Ok.made) c.tid-2.ensures c.in-Ok.ensures) it writes) it writes

pub invariant_of-self : goal.invariant_of-self
invariant_of-self g c =
    begun-grown c.self.inside.units.world c.finish.new.self.world c.self.invariant
    (grown-finished meaning is_lawful g.V.Volumes.disk c.self.inside.units c.finish.new.self c.world.ensures.safe.safe c.args.claim c.finish.result
    c.finish.ensures.ends)

pub returns-in-Err-clause-disk : goal.returns-in-Err-clause-disk
returns-in-Err-clause-disk g c =
    disk-seen g.V.Volumes.disk g.met.V.Volumes.only_now
    meaning is_lawful c.self.inside.units c.args.self.now c.self.view_is c.world.ensures.safe c.world.ensures.kept.on_volumes
    (λ (world : World ModelRules). finish_event (meaning world.rules) world c.args.claim)

pub returns-in_default-clause-sound : goal.returns-in_default-clause-sound
returns-in_default-clause-sound g c =
    sound-none g.V.Volumes.disk g.met.V.Volumes.only_now c.self.inside.units c.args.self.now c.self.view_is c.world.ensures.safe c.world.ensures.kept.on_volumes

pub returns-in-Ok-clause-sound : goal.returns-in-Ok-clause-sound
returns-in-Ok-clause-sound g c =
    sound-event g.V.Volumes.disk g.met.V.Volumes.only_now c.self.inside.units c.args.self.now c.self.view_is c.world.ensures.safe
    c.world.ensures.kept.on_volumes
    c.finish.new.self (finish_event (meaning c.self.inside.units.world.rules) c.self.inside.units.world c.args.claim) c.finish.ensures.disk

pub returns-in-Err-clause-sound : goal.returns-in-Err-clause-sound
returns-in-Err-clause-sound g c =
    sound-none g.V.Volumes.disk g.met.V.Volumes.only_now c.self.inside.units c.args.self.now c.self.view_is c.world.ensures.safe c.world.ensures.kept.on_volumes
