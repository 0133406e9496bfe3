use Rattle.std.proofs.Common.{rules}
use Rattle.case_form.specs.Rules.{no_block}
use Rattle.case_form.proofs.rule.no_block.Goals as goal

pub returns : goal.returns
unfolding no_block
returns c = search rules
