use Rattle.std.proofs.Common.{◌≤◌, length, arith}
use Rattle.std.proofs.lemmas.Bool.Decides.{nat_tests}
use Rattle.document_state.proofs.LegalLogLemmas.{legal-system}
use Rattle.document_state.proofs.model_rules.ModelRulesRules.allows.Goals as goal

pub returns : goal.returns
returns c =
    let log = c.args.log.now in
    let begun = c.if-is_empty.ensures in
    let some : 1 ≤ length log = grind (arith, nat_tests, begun) in
    c.is_allowed.ensures log c.in_ok-replay.ensures.tables (legal-system c.args.self.now.systems c.args.system log c.requires.legal some)
