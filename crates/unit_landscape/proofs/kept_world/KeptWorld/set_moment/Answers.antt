use Rattle.std.proofs.Common.{sym, subst}
use Rattle.unit_landscape.specs.OnVolumes.{AreOnVolumes}
use Rattle.unit_landscape.proofs.OnVolumesLemmas.{on_volumes-with_moment}
use Rattle.unit_landscape.proofs.kept_world.KeptWorld.set_moment.Goals as goal

pub invariant_of-self : goal.invariant_of-self
invariant_of-self g c = record {
  in_step = c.self.invariant.in_step;
  on_volumes = subst (λ j. AreOnVolumes g.V.Volumes.disk c.self.inside.vols c.self.inside.both.world.systems j) (sym c.set_moment.ensures)
      (on_volumes-with_moment g.V.Volumes.disk c.self.inside.vols c.self.inside.both.world.systems c.self.inside.journals c.args.moment
      c.self.invariant.on_volumes);
  causes = c.self.invariant.causes;
  counted = c.self.invariant.counted;
}
