use Rattle.trfc_protocol.specs.declared.event.Event.TheVariants as event
use Rattle.trfc_protocol.specs.declared.event.Action.TheVariants.{Append}
use Rattle.unit_landscape.specs.Appending.{at}
use Rattle.unit_landscape.proofs.GrownLemmas.{grown-appends}
use Rattle.landscape.proofs.BegunLemmas.{begun-grown, is_lawful, meaning}
use Rattle.landscape.proofs.SoundLemmas.{sound-event}
use Rattle.landscape.proofs.landscape.Landscape.bring.Goals as goal

pub invariant_of-self : goal.invariant_of-self
invariant_of-self g c =
    begun-grown c.self.inside.units.world c.operate.new.self.world c.self.invariant
    (grown-appends meaning is_lawful g.V.Volumes.disk c.self.inside.units c.operate.new.self c.world.ensures.safe.safe
    (event.Operator (Append c.args.system c.args.wanted.next)) (at c.args.system c.args.wanted.next) c.operate.result
    c.operate.ensures.ends)

pub returns-clause-sound : goal.returns-clause-sound
returns-clause-sound g c =
    sound-event g.V.Volumes.disk g.met.V.Volumes.only_now c.self.inside.units c.args.self.now c.self.view_is c.world.ensures.safe
    c.world.ensures.kept.on_volumes
    c.operate.new.self (event.Operator (Append c.args.system c.args.wanted.next)) c.operate.ensures.disk
