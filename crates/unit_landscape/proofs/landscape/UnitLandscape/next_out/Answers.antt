use Rattle.std.specs.Option.{option_copied}
use Rattle.std.proofs.Common.{◌≡◌, true, None, ap, sym, subst, ◌∙◌}
use Rattle.ale_base.specs.declared.way.Way.TheVariants.{Outgoing}
use Rattle.trfc_protocol.specs.declared.world.World.{World}
use Rattle.trfc_protocol.specs.Worlds.{is_up}
use Rattle.trfc_protocol.proofs.SafeLemmas.{sound_now}
use Rattle.unit_landscape.specs.KeptWorlds.{KeptOf}
use Rattle.unit_landscape.specs.Claiming.{IsNextOut}
use Rattle.unit_landscape.proofs.OfferedLemmas.{one-sender}
use Rattle.unit_landscape.proofs.ClaimingLemmas.{next_out-found, next_out-none}
use Rattle.unit_landscape.proofs.landscape.UnitLandscape.next_out.Goals as goal

pub unit-requires : goal.unit-requires
unit-requires g c =
    let world = c.self.inside.kept.world in
    (sound_now (g.R.Rules.meaning world.rules) (g.met.R.Rules.lawful world.rules) world (c.self.invariant).safe).legal (c.in-Some.tid).system

pub returns-in-Some : goal.returns-in-Some
returns-in-Some g c =
    let world = c.self.inside.kept.world in
    let rules = g.R.Rules.meaning world.rules in
    let lawful = g.met.R.Rules.lawful world.rules in
    let up : is_up world c.args.system ≡ true =
    ap (λ (w : World g.row.R.Denot). is_up w c.args.system) (sym c.world.ensures.world) ∙ sym c.is_up.ensures ∙ c.if-not-is_up.false in
    subst (λ (k : KeptOf g.row.R.Denot g.row.A.Denot g.row.V.Denot).
    IsNextOut (g.R.Rules.meaning k.world.rules) k.world c.args.system (option_copied c.unit.result))
    c.self.view_is
    (next_out-found rules lawful world (c.self.invariant).safe c.args.system c.in-Some.tid (option_copied c.unit.result) up
    (sym (c.first_to_go.ensures (one-sender rules lawful world (c.self.invariant).safe Outgoing c.args.system)) ∙ c.in-Some.is) c.unit.ensures)

pub returns-in-None : goal.returns-in-None
returns-in-None g c =
    let world = c.self.inside.kept.world in
    let rules = g.R.Rules.meaning world.rules in
    let lawful = g.met.R.Rules.lawful world.rules in
    let up : is_up world c.args.system ≡ true =
    ap (λ (w : World g.row.R.Denot). is_up w c.args.system) (sym c.world.ensures.world) ∙ sym c.is_up.ensures ∙ c.if-not-is_up.false in
    subst (λ (k : KeptOf g.row.R.Denot g.row.A.Denot g.row.V.Denot). IsNextOut (g.R.Rules.meaning k.world.rules) k.world c.args.system None)
    c.self.view_is
    (next_out-none rules lawful world (c.self.invariant).safe c.args.system up
    (sym (c.first_to_go.ensures (one-sender rules lawful world (c.self.invariant).safe Outgoing c.args.system)) ∙ c.in-None.is))
