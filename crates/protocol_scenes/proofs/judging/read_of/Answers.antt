use Rattle.protocol_scenes.proofs.TablesLemmas.{CommitFew-listed}
use Rattle.protocol_scenes.proofs.judging.read_of.Goals as goal

pub read_log-requires-clause-few : goal.read_log-requires-clause-few
read_log-requires-clause-few c = CommitFew-listed c.args.rules.now.units c.args.rules.now.listed
