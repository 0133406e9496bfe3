use Rattle.std.proofs.Common.{◌∙◌, length, take, ap}
use Rattle.ale_base.specs.Blanks.{trimmed}
use Rattle.segment_defs.proofs.FieldLemmas.{take-trimmed}
use Rattle.segment_defs.proofs.field.without_blanks.Goals as goal

pub returns : goal.returns
returns c =
    let bytes = c.args.bytes.items in
    c.from_vec.ensures ∙ c.truncate.ensures.items
    ∙ ap (λ text. take (length text) bytes) (c.trimmed-text.ensures ∙ ap trimmed c.deref.ensures.value)
    ∙ take-trimmed bytes
