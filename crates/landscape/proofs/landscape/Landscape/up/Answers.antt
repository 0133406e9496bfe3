use Rattle.landscape.proofs.SoundLemmas.{sound-none}
use Rattle.landscape.proofs.landscape.Landscape.up.Goals as goal

pub returns-in-Some-clause-sound : goal.returns-in-Some-clause-sound
returns-in-Some-clause-sound g c =
    sound-none g.V.Volumes.disk g.met.V.Volumes.only_now c.self.inside.units c.args.self.now c.self.view_is c.world.ensures.safe c.world.ensures.kept.on_volumes

pub returns-in-None-clause-sound : goal.returns-in-None-clause-sound
returns-in-None-clause-sound g c =
    sound-none g.V.Volumes.disk g.met.V.Volumes.only_now c.self.inside.units c.args.self.now c.self.view_is c.world.ensures.safe c.world.ensures.kept.on_volumes
