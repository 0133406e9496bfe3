use Rattle.std.proofs.Common.{◌∙◌}
use Rattle.unit_landscape.proofs.AnswersLemmas.{outstanding-at}
use Rattle.unit_landscape.proofs.kept_world.KeptWorld.is_outstanding.Goals as goal

pub returns : goal.returns
returns g c =
    c.is_outstanding.ensures
    ∙ outstanding-at g.A.Application.stands (g.R.Rules.meaning c.args.self.now.world.rules) c.args.self.now.world c.args.system c.tables.result.now
    c.tables.ensures.agree c.args.way c.args.tid
