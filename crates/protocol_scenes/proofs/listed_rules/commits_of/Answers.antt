use Rattle.std.proofs.Common.{arith}
use Rattle.std.proofs.lemmas.Grind.{common_steps}
use Rattle.protocol_scenes.specs.ListedRulesLemmas.{commits_of-push}
use Rattle.protocol_scenes.proofs.listed_rules.commits_of.Goals as goal

pub loop-record-preserved : goal.loop-record-preserved
loop-record-preserved c = grind (arith, common_steps, commits_of-push)
