use Rattle.unit_landscape.proofs.GrownLemmas.{grown-arrived}
use Rattle.landscape.proofs.BegunLemmas.{begun-grown, is_lawful, meaning}
use Rattle.trfc_protocol.specs.declared.event.Event.TheVariants as event
use Rattle.landscape.proofs.SoundLemmas.{sound-event}
use Rattle.landscape.proofs.landscape.Landscape.arrive.Goals as goal

pub invariant_of-self : goal.invariant_of-self
invariant_of-self g c =
    begun-grown c.self.inside.units.world c.arrive.new.self.world c.self.invariant
    (grown-arrived meaning is_lawful g.V.Volumes.disk c.self.inside.units c.arrive.new.self c.world.ensures.safe.safe c.args.unit.now c.arrive.result
    c.arrive.ensures.event c.arrive.ensures.short)

pub returns-clause-sound : goal.returns-clause-sound
returns-clause-sound g c =
    sound-event g.V.Volumes.disk g.met.V.Volumes.only_now c.self.inside.units c.args.self.now c.self.view_is c.world.ensures.safe
    c.world.ensures.kept.on_volumes
    c.arrive.new.self (event.Arrive c.args.unit.now.tid) c.arrive.ensures.disk
