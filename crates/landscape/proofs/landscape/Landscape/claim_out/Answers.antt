use Rattle.unit_landscape.proofs.GrownLemmas.{grown-claimed_out}
use Rattle.landscape.proofs.BegunLemmas.{begun-grown, is_lawful, meaning}
use Rattle.landscape.proofs.SoundLemmas.{sound-still}
use Rattle.landscape.proofs.landscape.Landscape.claim_out.Goals as goal

pub invariant_of-self : goal.invariant_of-self
invariant_of-self g c =
    begun-grown c.self.inside.units.world c.claim_out.new.self.world c.self.invariant
    (grown-claimed_out meaning is_lawful g.V.Volumes.disk c.self.inside.units c.claim_out.new.self c.world.ensures.safe.safe c.args.system c.claim_out.result
    c.claim_out.ensures.event c.claim_out.ensures.err)

pub returns-clause-sound : goal.returns-clause-sound
returns-clause-sound g c =
    sound-still g.V.Volumes.disk g.met.V.Volumes.only_now c.self.inside.units c.args.self.now c.self.view_is c.world.ensures.safe
    c.world.ensures.kept.on_volumes
    c.claim_out.new.self c.claim_out.ensures.volumes.vols
