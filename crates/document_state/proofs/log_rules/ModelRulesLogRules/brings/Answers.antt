use Rattle.document_state.proofs.LogRulesLemmas.{commits-made}
use Rattle.document_state.proofs.log_rules.ModelRulesLogRules.brings.Goals as goal

pub returns-clause-units : goal.returns-clause-units
returns-clause-units c = commits-made c.args.log.now c.args.next.now c.in_ok-made.made c.in_ok-units.units c.in_ok-made.ensures c.in_ok-units.ensures
