use Rattle.std.proofs.Common.{rules}
use Rattle.case_form.specs.Rules.{no_item}
use Rattle.case_form.proofs.rule.no_item.Goals as goal

pub returns : goal.returns
unfolding no_item
returns c = search rules
