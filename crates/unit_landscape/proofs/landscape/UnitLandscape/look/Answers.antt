use Rattle.std.proofs.Common.{◌-◌, sym, subst}
use Rattle.unit_landscape.specs.Crashes.{LeavesSound}
use Rattle.unit_landscape.specs.KeptWorlds.{KeptOf}
use Rattle.unit_landscape.specs.Reopening.{IsDown}
use Rattle.unit_landscape.proofs.CrashLemmas.{leaves-opened}
use Rattle.unit_landscape.proofs.landscape.UnitLandscape.look.Goals as goal

pub returns-clause-sound : goal.returns-clause-sound
returns-clause-sound g c = λ tells.
    let disk = g.V.Volumes.disk in
    let kept = c.self.inside.kept in
    let down : IsDown kept.world c.args.system =
    subst (λ (k : KeptOf g.row.R.Denot g.row.A.Denot g.row.V.Denot). IsDown k.world c.args.system) (sym c.self.view_is) c.requires.down in
    subst (λ k. LeavesSound g.R.Rules.meaning disk k c.look.new.self) c.self.view_is
    (leaves-opened g.R.Rules.meaning disk kept g.met.V.Volumes.only_now c.world.ensures.kept.on_volumes (g.met.R.Rules.lawful kept.world.rules)
    c.self.invariant.safe tells c.look.new.self c.args.system down.state down.known down.down
    (g.met.V.Volumes.read_is_image tells kept.vols (c.args.system - 1)) (c.look.ensures.looks.any_moment tells) (c.look.ensures.looks.others tells))
