use Rattle.std.proofs.Common.{◌∙◌}
use Rattle.unit_landscape.proofs.AnswersLemmas.{offered-at}
use Rattle.unit_landscape.proofs.kept_world.KeptWorld.may_go.Goals as goal

pub returns : goal.returns
returns g c = λ one.
    c.is_offered.ensures
    ∙ offered-at g.A.Application.stands (g.R.Rules.meaning c.args.self.now.world.rules) c.args.self.now.world c.args.system c.tables.result.now
    c.tables.ensures.agree c.args.way one c.args.tid
