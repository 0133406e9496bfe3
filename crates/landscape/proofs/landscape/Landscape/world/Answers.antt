use Rattle.std.proofs.Common.{subst}
use Rattle.unit_landscape.specs.Kept.{IsLandscape}
use Rattle.landscape.proofs.BegunLemmas.{meaning}
use Rattle.landscape.proofs.CrashOpensLemmas.{opens-left}
use Rattle.landscape.proofs.SoundLemmas.{sound-none}
use Rattle.landscape.proofs.landscape.Landscape.world.Goals as goal

pub returns-clause-sound : goal.returns-clause-sound
returns-clause-sound g c =
    sound-none g.V.Volumes.disk g.met.V.Volumes.only_now c.self.inside.units c.args.self.now c.self.view_is c.world.ensures.safe c.world.ensures.kept.on_volumes

pub returns-clause-opens : goal.returns-clause-opens
returns-clause-opens g c =
    let still = sound-none g.V.Volumes.disk g.met.V.Volumes.only_now c.self.inside.units c.args.self.now c.self.view_is c.world.ensures.safe
    c.world.ensures.kept.on_volumes in
    let safe = subst (λ k. IsLandscape meaning k.world) c.self.view_is c.world.ensures.safe in
    opens-left g.V.Volumes.disk c.args.self.now c.args.self.now safe.safe.systems still
