use Rattle.unit_landscape.specs.Calls.{finish_event}
use Rattle.unit_landscape.proofs.HappenedLemmas.{disk-seen}
use Rattle.unit_landscape.proofs.landscape.UnitLandscape.finish.Goals as goal

pub returns-in_default-clause-disk : goal.returns-in_default-clause-disk
returns-in_default-clause-disk g c =
    disk-seen g.V.Volumes.disk g.met.V.Volumes.only_now
    g.R.Rules.meaning g.met.R.Rules.lawful c.self.inside.kept c.args.self.now c.self.view_is c.self.invariant c.world.ensures.kept.on_volumes
    (λ world. finish_event (g.R.Rules.meaning world.rules) world c.args.claim)
