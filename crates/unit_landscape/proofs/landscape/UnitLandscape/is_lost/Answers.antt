use Rattle.std.specs.Prelude.{is_some}
use Rattle.std.proofs.Common.{◌≡◌, true, ap, sym, subst, ◌∙◌}
use Rattle.trfc_protocol.specs.Worlds.{committed_unit}
use Rattle.unit_landscape.specs.LogAnswers.{AreTablesNow}
use Rattle.unit_landscape.specs.Late.{is_lost, is_marked_lost}
use Rattle.unit_landscape.proofs.LateLemmas.{lost-table, some_there}
use Rattle.unit_landscape.proofs.landscape.UnitLandscape.is_lost.Goals as goal

pub returns : goal.returns
returns g c =
    let world = c.self.inside.kept.world in
    let rules = g.R.Rules.meaning c.self.inside.kept.world.rules in
    let there = some_there (committed_unit rules world c.args.tid)
    (subst (λ k. is_some (committed_unit (g.R.Rules.meaning k.world.rules) k.world c.args.tid) ≡ true) (sym c.self.view_is) c.requires.committed) in
    c.is_marked_lost.ensures ∙ ap is_marked_lost c.why_not.ensures
    ∙ lost-table rules (g.met.R.Rules.lawful c.self.inside.kept.world.rules) world c.self.invariant.safe g.A.Application.stands c.args.tid there.0
    c.tables.result.now
    (subst (λ s. AreTablesNow g.A.Application.stands rules world s c.tables.result.now) c.system.ensures c.tables.ensures.agree) there.1
    ∙ ap (λ k. is_lost k.world c.args.tid) c.self.view_is
