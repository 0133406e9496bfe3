use Rattle.std.proofs.Common.{◌≡◌, ◌-◌, true, None, refl, sym, ap, subst, ◌∙◌, arith}
use Rattle.trfc_protocol.specs.Worlds.{log_of, is_up}
use Rattle.unit_journal.proofs.KeptLemmas.{IsLeft-of}
use Rattle.unit_landscape.specs.OnVolumes.{AreOnVolumes}
use Rattle.unit_landscape.specs.Causes.{with_cause, AreCausesOf}
use Rattle.unit_landscape.specs.Counted.{AreCounted}
use Rattle.unit_landscape.proofs.CountedLemmas.{counted-fell}
use Rattle.unit_landscape.proofs.InStepLemmas.{stands_up}
use Rattle.unit_landscape.proofs.CausesLemmas.{causes-fell}
use Rattle.unit_landscape.proofs.OnVolumesLemmas.{OnlyAt-same, on_disk-up, on_volumes-fell}
use Rattle.unit_landscape.proofs.BehindLemmas.{in_step-fell}
use Rattle.unit_landscape.proofs.kept_world.KeptWorld.fall.Goals as goal

pub fall-requires-clause-in_step : goal.fall-requires-clause-in_step
fall-requires-clause-in_step g c =
    in_step-fell g.A.Application.stands g.R.Rules.meaning c.self.inside.both.world c.self.inside.both.tables c.args.system None
    (ap (λ k. is_up k.world c.args.system) c.self.view_is ∙ c.requires.up) c.self.invariant.in_step

pub invariant_of-self : goal.invariant_of-self
invariant_of-self g c =
    let disk = g.V.Volumes.disk in
    let world = c.self.inside.both.world in
    let journals = c.self.inside.journals in
    let vols = c.self.inside.vols in
    let up : is_up world c.args.system ≡ true = ap (λ k. is_up k.world c.args.system) c.self.view_is ∙ c.requires.up in
    let on_disk = on_disk-up disk vols world journals c.args.system up c.self.invariant.on_volumes in
    record {
      in_step = c.fall.ensures.in_step;
      on_volumes = subst (λ w. AreOnVolumes disk vols w.systems journals) (sym c.fall.ensures.world)
          (on_volumes-fell disk vols vols world journals journals c.args.system None up c.self.invariant.on_volumes
          (OnlyAt-same disk (c.args.system - 1) journals) (c.self.invariant.on_volumes.order (c.args.system - 1)) (λ other differs tells. refl)
          (IsLeft-of disk vols (c.args.system - 1) journals (log_of world c.args.system) on_disk));
      causes = subst (λ n. AreCausesOf c.fall.new.self.world.systems (with_cause c.self.inside.causes n c.args.cause)) (sym c.get.ensures.number)
          (subst (λ w. AreCausesOf w.systems (with_cause c.self.inside.causes c.args.system c.args.cause)) (sym c.fall.ensures.world)
          (causes-fell world c.args.system None c.args.cause c.self.inside.causes up
          (let few = c.self.invariant.on_volumes.few in let most = (stands_up world.systems c.args.system up).most in omega arith)
          c.requires.cause c.self.invariant.causes));
      counted = subst (λ w. AreCounted w.systems c.self.inside.counted) (sym c.fall.ensures.world)
          (counted-fell world c.args.system up None c.self.inside.counted c.self.invariant.counted);
    }
