use Rattle.std.proofs.Common.{rules}
use Rattle.case_form.specs.Rules.{one_title}
use Rattle.case_form.proofs.rule.one_title.Goals as goal

pub returns : goal.returns
unfolding one_title
returns c = search rules
