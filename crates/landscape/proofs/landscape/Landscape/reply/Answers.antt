use Rattle.trfc_protocol.specs.declared.world.World.{World}
use Rattle.unit_landscape.proofs.HappenedLemmas.{disk-seen}
use Rattle.unit_landscape.specs.Calls.{reply_event}
use Rattle.document_state.specs.declared.model_rules.ModelRules.{ModelRules}
use Rattle.unit_landscape.proofs.GrownLemmas.{grown-replied}
use Rattle.landscape.proofs.BegunLemmas.{begun-grown, is_lawful, meaning}
use Rattle.landscape.proofs.SoundLemmas.{sound-event, sound-none}
use Rattle.landscape.proofs.landscape.Landscape.reply.Goals as goal

pub returns-then-not-holds-clause-disk : goal.returns-then-not-holds-clause-disk
returns-then-not-holds-clause-disk g c =
    disk-seen g.V.Volumes.disk g.met.V.Volumes.only_now
    meaning is_lawful c.self.inside.units c.args.self.now c.self.view_is c.world.ensures.safe c.world.ensures.kept.on_volumes
    (λ (world : World ModelRules). reply_event (meaning world.rules) world c.args.claim c.args.given)

pub invariant_of-self : goal.invariant_of-self
invariant_of-self g c =
    begun-grown c.self.inside.units.world c.reply.new.self.world c.self.invariant
    (grown-replied meaning is_lawful g.V.Volumes.disk c.self.inside.units c.reply.new.self c.world.ensures.safe.safe c.args.claim c.args.given c.reply.result
    c.reply.ensures.ends)

pub returns-in-Err-clause-disk : goal.returns-in-Err-clause-disk
returns-in-Err-clause-disk g c =
    disk-seen g.V.Volumes.disk g.met.V.Volumes.only_now
    meaning is_lawful c.self.inside.units c.args.self.now c.self.view_is c.world.ensures.safe c.world.ensures.kept.on_volumes
    (λ (world : World ModelRules). reply_event (meaning world.rules) world c.args.claim c.args.given)

pub returns-then-not-holds-clause-sound : goal.returns-then-not-holds-clause-sound
returns-then-not-holds-clause-sound g c =
    sound-none g.V.Volumes.disk g.met.V.Volumes.only_now c.self.inside.units c.args.self.now c.self.view_is c.world.ensures.safe c.world.ensures.kept.on_volumes

pub returns-in-Ok-clause-sound : goal.returns-in-Ok-clause-sound
returns-in-Ok-clause-sound g c =
    sound-event g.V.Volumes.disk g.met.V.Volumes.only_now c.self.inside.units c.args.self.now c.self.view_is c.world.ensures.safe
    c.world.ensures.kept.on_volumes
    c.reply.new.self (reply_event (meaning c.self.inside.units.world.rules) c.self.inside.units.world c.args.claim c.args.given) c.reply.ensures.disk

pub returns-in-Err-clause-sound : goal.returns-in-Err-clause-sound
returns-in-Err-clause-sound g c =
    sound-none g.V.Volumes.disk g.met.V.Volumes.only_now c.self.inside.units c.args.self.now c.self.view_is c.world.ensures.safe c.world.ensures.kept.on_volumes
