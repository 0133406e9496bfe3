use Rattle.std.proofs.Common.{sym, ◌∙◌}
use Rattle.script_text.proofs.FormLemmas.{ends_with-fields}
use Rattle.script_text.proofs.shape.ends_with.Goals as goal

pub returns-then-words-gt0 : goal.returns-then-words-gt0
returns-then-words-gt0 c = c.are_fields.ensures ∙ sym (ends_with-fields c.args.fields c.args.words.now c.if-fields.true c.if-words-gt0.true)
