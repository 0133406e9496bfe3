use Rattle.std.proofs.Common.{◌≡◌, true, ap, sym, subst, ◌∙◌}
use Rattle.trfc_protocol.specs.declared.world.World.{World}
use Rattle.trfc_protocol.specs.Legal.{is_destination}
use Rattle.trfc_protocol.specs.Worlds.{log_of, is_up}
use Rattle.unit_landscape.specs.KeptWorlds.{KeptOf}
use Rattle.unit_landscape.specs.Kept.{IsLandscape}
use Rattle.unit_landscape.proofs.OperatingLemmas.{up-others}
use Rattle.unit_landscape.proofs.landscape.UnitLandscape.on_queue.Goals as goal

pub asked-requires-clause-may : goal.asked-requires-clause-may
asked-requires-clause-may g c =
    let world = c.args.self.now.world in
    let rules = g.R.Rules.meaning c.args.self.now.world.rules in
    let is = subst (λ k. IsLandscape g.R.Rules.meaning k.world) c.self.view_is c.self.invariant in
    let same = c.world-world.ensures.world ∙ ap (λ (k : KeptOf g.row.R.Denot g.row.A.Denot g.row.V.Denot). k.world) c.self.view_is in
    let up : is_up world c.args.system ≡ true =
    ap (λ (w : World g.row.R.Denot). is_up w c.args.system) (sym same) ∙ sym c.is_up.ensures ∙ c.if-not-is_up.false in
    let leads : is_destination rules.systems c.args.system c.args.way c.args.destination ≡ true =
    ap (λ (w : World g.row.R.Denot). is_destination (g.R.Rules.meaning w.rules).systems c.args.system c.args.way c.args.destination) (sym same)
    ∙ sym (ap (λ n. is_destination n c.args.system c.args.way c.args.destination) c.systems.ensures) ∙ sym c.is_destination.ensures
    ∙ c.if-not-is_destination.false in
    up-others rules (g.met.R.Rules.lawful c.args.self.now.world.rules) world is.safe c.args.system c.args.next up
    ∙ c.requires.queue (log_of world c.args.system) ∙ leads
