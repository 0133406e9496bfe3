use Rattle.landscape.proofs.SoundLemmas.{sound-none}
use Rattle.landscape.proofs.landscape.Landscape.open_system.Goals as goal

pub returns-then-is_up-clause-sound : goal.returns-then-is_up-clause-sound
returns-then-is_up-clause-sound g c =
    sound-none g.V.Volumes.disk g.met.V.Volumes.only_now c.self.inside.units c.args.self.now c.self.view_is c.world.ensures.safe
    c.world.ensures.kept.on_volumes
