use Rattle.document_state.proofs.LogRulesLemmas.{commit-few}
use Rattle.document_state.proofs.log_rules.read_log.Goals as goal

pub read-requires-clause-few : goal.read-requires-clause-few
read-requires-clause-few c = commit-few c.args.rules.now.systems
