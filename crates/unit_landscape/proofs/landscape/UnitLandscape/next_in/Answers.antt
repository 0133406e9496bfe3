use Rattle.std.proofs.Common.{◌≡◌, true, ap, sym, subst, ◌∙◌}
use Rattle.trfc_protocol.specs.declared.world.World.{World}
use Rattle.trfc_protocol.specs.Worlds.{is_up}
use Rattle.unit_landscape.specs.KeptWorlds.{KeptOf}
use Rattle.unit_landscape.specs.Claiming.{IsNextIn}
use Rattle.unit_landscape.proofs.ClaimingLemmas.{next_in-found}
use Rattle.unit_landscape.proofs.landscape.UnitLandscape.next_in.Goals as goal

pub returns : goal.returns
returns g c =
    let world = c.self.inside.kept.world in
    let up : is_up world c.args.system ≡ true =
    ap (λ (w : World g.row.R.Denot). is_up w c.args.system) (sym c.world.ensures.world) ∙ sym c.is_up.ensures ∙ c.if-not-is_up.false in
    subst (λ (k : KeptOf g.row.R.Denot g.row.A.Denot g.row.V.Denot). IsNextIn (g.R.Rules.meaning k.world.rules) k.world c.args.system c.first_to_go.result)
    c.self.view_is
    (next_in-found (g.R.Rules.meaning world.rules) (g.met.R.Rules.lawful world.rules) world (c.self.invariant).safe c.args.system c.first_to_go.result up
    (c.first_to_go.ensures tt))
