use Rattle.std.proofs.Common.{◌∙◌}
use Rattle.script_text.proofs.Utf8Lemmas.{read-utf8}
use Rattle.script_text.proofs.kind.is_utf8.Goals as goal

pub returns : goal.returns
returns c = c.is_ok.ensures.value ∙ read-utf8 c.args.word.now _ _ c.from_utf8.result c.from_utf8.ensures.cases
