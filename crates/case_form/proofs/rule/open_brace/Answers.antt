use Rattle.std.proofs.Common.{rules}
use Rattle.case_form.specs.Rules.{open_brace}
use Rattle.case_form.proofs.rule.open_brace.Goals as goal

pub returns : goal.returns
unfolding open_brace
returns c = search rules
