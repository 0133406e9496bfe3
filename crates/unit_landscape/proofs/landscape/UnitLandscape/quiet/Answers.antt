use Rattle.std.proofs.Common.{◌≡◌, arith, ap, subst, ◌∙◌}
use Rattle.trfc_protocol.specs.declared.world.World.{World}
use Rattle.trfc_protocol.specs.Safe.{Safe}
use Rattle.unit_landscape.specs.KeptWorlds.{KeptOf}
use Rattle.unit_landscape.proofs.QuietLemmas.{quiet-more, quiet-told}
use Rattle.unit_landscape.proofs.landscape.UnitLandscape.quiet.Goals as goal

pub loop-number-preserved : goal.loop-number-preserved
loop-number-preserved g c =
    let world = c.args.self.now.world in
    quiet-more (g.R.Rules.meaning world.rules) world c.loop-number.number c.in-Some.system c.in-Some.ensures.found c.loop-number.invariant
    (c.is_quiet_at.ensures.0 c.if-not-is_quiet_at.false)

pub returns : goal.returns
returns g c =
    let world = c.args.self.now.world in
    let safe =
    subst (λ (k : KeptOf g.row.R.Denot g.row.A.Denot g.row.V.Denot). Safe (g.R.Rules.meaning k.world.rules) k.world) c.self.view_is (c.self.invariant).safe in
    let all : c.loop-number.number ≡ (g.R.Rules.meaning world.rules).systems =
    let last : c.loop-number.number ≡ c.systems-systems.result = omega arith in
    last ∙ c.systems-systems.ensures ∙ ap (λ (w : World g.row.R.Denot). (g.R.Rules.meaning w.rules).systems) c.world.ensures.world
    ∙ ap (λ (k : KeptOf g.row.R.Denot g.row.A.Denot g.row.V.Denot). (g.R.Rules.meaning k.world.rules).systems) c.self.view_is in
    quiet-told (g.R.Rules.meaning world.rules) world safe c.loop-number.number all c.loop-number.invariant
