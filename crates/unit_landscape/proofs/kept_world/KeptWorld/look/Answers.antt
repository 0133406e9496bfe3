use Rattle.std.specs.Option.{option_copied}
use Rattle.std.proofs.Common.{◌≤◌, ◌-◌, sym, subst, arith}
use Rattle.trfc_protocol.specs.Worlds.{log_of}
use Rattle.unit_journal.specs.OnDisk.{IsKept}
use Rattle.unit_landscape.specs.Causes.{AreCausesOf}
use Rattle.unit_landscape.specs.KeptWorlds.{KeptOf}
use Rattle.unit_landscape.specs.Reopening.{IsDown}
use Rattle.unit_landscape.proofs.OpenedAgainLemmas.{causes-looked, down-most, kept-down, on_volumes-looked}
use Rattle.unit_landscape.proofs.kept_world.KeptWorld.look.Goals as goal

pub look-looked-requires-clause-kept : goal.look-looked-requires-clause-kept
look-looked-requires-clause-kept g c =
    let world = c.self.inside.both.world in
    let journals = c.self.inside.journals in
    let down : IsDown world c.args.system =
    subst (λ (k : KeptOf g.row.R.Denot g.row.A.Denot g.row.V.Denot). IsDown k.world c.args.system) (sym c.self.view_is) c.requires.down in
    subst (λ log. IsKept (c.args.system - 1) journals log (option_copied c.rest.result)) (sym c.log.ensures)
    (subst (IsKept (c.args.system - 1) journals (log_of world c.args.system)) (sym c.rest.ensures)
    (kept-down g.V.Volumes.disk c.self.inside.vols world journals c.args.system c.self.invariant.on_volumes down))

pub invariant_of-self : goal.invariant_of-self
invariant_of-self g c =
    let disk = g.V.Volumes.disk in
    let world = c.self.inside.both.world in
    let journals = c.self.inside.journals in
    let looked = c.look-looked.ensures in
    let down : IsDown world c.args.system =
    subst (λ (k : KeptOf g.row.R.Denot g.row.A.Denot g.row.V.Denot). IsDown k.world c.args.system) (sym c.self.view_is) c.requires.down in
    let most : c.args.system ≤ 16 =
    let few = c.self.invariant.on_volumes.few in let within = down-most world c.args.system down in omega (arith, few, within) in
    record {
      in_step = c.self.invariant.in_step;
      on_volumes = on_volumes-looked disk c.self.inside.vols c.look-looked.new.vols world journals c.args.system c.log.result.now
          (option_copied c.rest.result) down c.self.invariant.on_volumes c.log.ensures c.rest.ensures looked.left looked.others;
      causes = subst (AreCausesOf world.systems) (sym c.tell_look.ensures)
          (causes-looked world c.args.system c.self.inside.causes c.look-looked.result down most c.self.invariant.causes);
      counted = c.self.invariant.counted;
    }
