use Rattle.std.proofs.Common.{◌∙◌}
use Rattle.unit_landscape.proofs.AnswersLemmas.{known-at}
use Rattle.unit_landscape.proofs.kept_world.KeptWorld.is_known.Goals as goal

pub returns : goal.returns
returns g c =
    c.is_seen.ensures
    ∙ known-at g.A.Application.stands (g.R.Rules.meaning c.args.self.now.world.rules) c.args.self.now.world c.args.system c.tables.result.now
    c.tables.ensures.agree c.args.tid
