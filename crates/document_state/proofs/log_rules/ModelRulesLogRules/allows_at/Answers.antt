use Rattle.document_state.proofs.LegalLogLemmas.{legal-system}
use Rattle.document_state.proofs.LogRulesLemmas.{begun-some}
use Rattle.document_state.proofs.log_rules.ModelRulesLogRules.allows_at.Goals as goal

pub returns : goal.returns
returns c =
    c.is_allowed.ensures c.args._log.now c.requires.stands
    (legal-system c.args.self.now.systems c.args.system c.args._log.now c.requires.legal (begun-some c.args._log.now c.requires.begun))
