use Rattle.landscape.proofs.SoundLemmas.{sound-still}
use Rattle.landscape.proofs.landscape.Landscape.revoke.Goals as goal

pub returns-clause-sound : goal.returns-clause-sound
returns-clause-sound g c =
    sound-still g.V.Volumes.disk g.met.V.Volumes.only_now c.self.inside.units c.args.self.now c.self.view_is c.world.ensures.safe
    c.world.ensures.kept.on_volumes
    c.revoke.new.self c.revoke.ensures.volumes.vols
