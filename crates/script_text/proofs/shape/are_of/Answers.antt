use Rattle.std.proofs.Common.{sym}
use Rattle.script_text.proofs.FormLemmas.{are_of-long}
use Rattle.script_text.proofs.shape.are_of.Goals as goal

pub returns-then-kinds-words : goal.returns-then-kinds-words
returns-then-kinds-words c = sym (are_of-long c.args.kinds.now c.args.words.now c.if-kinds-words.true)
