use Rattle.std.proofs.Common.{rules}
use Rattle.case_form.specs.Rules.{blank_at_end}
use Rattle.case_form.proofs.rule.blank_at_end.Goals as goal

pub returns : goal.returns
unfolding blank_at_end
returns c = search rules
