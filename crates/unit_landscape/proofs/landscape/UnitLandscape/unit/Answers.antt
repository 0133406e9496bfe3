use Rattle.trfc_protocol.proofs.SafeLemmas.{sound_now}
use Rattle.unit_landscape.proofs.landscape.UnitLandscape.unit.Goals as goal

pub unit-requires : goal.unit-requires
unit-requires g c =
    let world = c.self.inside.kept.world in
    (sound_now (g.R.Rules.meaning c.self.inside.kept.world.rules) (g.met.R.Rules.lawful c.self.inside.kept.world.rules) world c.self.invariant.safe).legal
    c.args.tid.system
