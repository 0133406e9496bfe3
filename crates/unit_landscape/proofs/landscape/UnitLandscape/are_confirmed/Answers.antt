use Rattle.std.specs.Prelude.{◌↔◌}
use Rattle.std.proofs.Common.{◌≡◌, true, ap, sym, subst, ◌∙◌}
use Rattle.trfc_protocol.specs.declared.world.World.{World}
use Rattle.trfc_protocol.specs.Worlds.{is_up}
use Rattle.unit_landscape.specs.KeptWorlds.{KeptOf}
use Rattle.unit_landscape.specs.Quiet.{AreConfirmed, none_up}
use Rattle.unit_landscape.proofs.QuietLemmas.{confirmed-told}
use Rattle.unit_landscape.proofs.landscape.UnitLandscape.are_confirmed.Goals as goal

pub returns : goal.returns
returns g c =
    let world = c.self.inside.kept.world in
    let its = c.tables-tables.result.now in
    let keys = c.numbers.result.now.keys in
    let up : is_up world c.args.system ≡ true =
    ap (λ (w : World g.row.R.Denot). is_up w c.args.system) (sym c.world-world.ensures.world) ∙ sym c.is_up.ensures ∙ c.if-not-is_up.false in
    subst (λ (k : KeptOf g.row.R.Denot g.row.A.Denot g.row.V.Denot).
    (c.none_up.result ≡ true) ↔ AreConfirmed (g.R.Rules.meaning k.world.rules) k.world c.args.system)
    c.self.view_is
    (confirmed-told g.A.Application.stands (g.R.Rules.meaning world.rules) (g.met.R.Rules.lawful world.rules) world (c.self.invariant).safe c.args.system up
    its c.tables-tables.ensures.agree keys (c.numbers.ensures ∙ c.unconfirmed.ensures) c.none_up.result
    (c.none_up.ensures ∙ ap (λ (w : World g.row.R.Denot). none_up w its.units keys) c.world-world.ensures.world))
