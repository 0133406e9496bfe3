use Rattle.std.proofs.Common.{◌≡◌, sym, ap, subst, ◌∙◌}
use Rattle.std.specs.Prelude.{slice_get, ◌-◌}
use Rattle.trfc_protocol.specs.Worlds.{is_up}
use Rattle.unit_landscape.specs.LogAnswers.{AreTablesNow}
use Rattle.unit_landscape.proofs.AnswersLemmas.{tables-at}
use Rattle.unit_landscape.proofs.kept_world.KeptWorld.tables.Goals as goal

pub returns-clause-agree : goal.returns-clause-agree
returns-clause-agree g c =
    let world = c.self.inside.both.world in
    let same : world ≡ c.args.self.now.world = ap (λ k. k.world) c.self.view_is in
    subst (λ w. AreTablesNow g.A.Application.stands (g.R.Rules.meaning w.rules) w c.args.system c.index.result.now) same
    (tables-at g.A.Application.stands (g.R.Rules.meaning world.rules) world c.self.inside.both.tables c.self.invariant.in_step c.args.system
    (ap (λ w. is_up w c.args.system) same ∙ c.requires) c.index.result.now (ap (λ n. slice_get c.self.inside.both.tables (n - 1)) (sym c.get.ensures.number)
    ∙ c.index.ensures))
