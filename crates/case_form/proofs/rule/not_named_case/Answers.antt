use Rattle.std.proofs.Common.{rules}
use Rattle.case_form.specs.Rules.{not_named_case}
use Rattle.case_form.proofs.rule.not_named_case.Goals as goal

pub returns : goal.returns
unfolding not_named_case
returns c = search rules
