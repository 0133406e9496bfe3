use Rattle.std.specs.Prelude.{IfOk}
use Rattle.std.proofs.Common.{◌≡◌, ◌-◌, ◌∙◌, true, ap, subst}
use Rattle.trfc_protocol.specs.Worlds.{is_up, log_of}
use Rattle.unit_landscape.specs.KeptWorlds.{KeptOf}
use Rattle.unit_landscape.specs.Writes.{size_with}
use Rattle.unit_landscape.proofs.OnVolumesLemmas.{at_end-of, on_disk-up}
use Rattle.unit_landscape.proofs.kept_world.KeptWorld.size_with.Goals as goal

pub size_with-requires-clause-open : goal.size_with-requires-clause-open
size_with-requires-clause-open g c =
    let world = c.self.inside.both.world in
    let journals = c.self.inside.journals in
    let same : world ≡ c.args.self.now.world = ap (λ k. k.world) c.self.view_is in
    let up : is_up world c.args.system ≡ true = ap (λ w. is_up w c.args.system) same ∙ c.requires.up in (
      log_of world c.args.system,
      at_end-of g.V.Volumes.disk c.self.inside.vols (c.args.system - 1) journals (log_of world c.args.system)
          (on_disk-up g.V.Volumes.disk c.self.inside.vols world journals c.args.system up c.self.invariant.on_volumes),
    )

pub returns : goal.returns
returns g c =
    let world = c.self.inside.both.world in
    let journals = c.self.inside.journals in
    let same : world ≡ c.args.self.now.world = ap (λ k. k.world) c.self.view_is in
    let up : is_up world c.args.system ≡ true = ap (λ w. is_up w c.args.system) same ∙ c.requires.up in
    subst (λ (k : KeptOf g.row.R.Denot g.row.A.Denot g.row.V.Denot). IfOk c.size_with.result (λ size. size ≡ size_with k c.args.system c.args.next.now))
    c.self.view_is
    (c.size_with.ensures (log_of world c.args.system)
    (at_end-of g.V.Volumes.disk c.self.inside.vols (c.args.system - 1) journals (log_of world c.args.system)
    (on_disk-up g.V.Volumes.disk c.self.inside.vols world journals c.args.system up c.self.invariant.on_volumes)))
