use Rattle.std.proofs.Common.{rules}
use Rattle.case_form.specs.Rules.{bad_number}
use Rattle.case_form.proofs.rule.bad_number.Goals as goal

pub returns : goal.returns
unfolding bad_number
returns c = search rules
