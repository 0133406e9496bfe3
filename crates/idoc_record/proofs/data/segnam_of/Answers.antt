use Rattle.std.proofs.Common.{sym, ap, ◌∙◌}
use Rattle.std.proofs.Math.ListN.{take}
use Rattle.ale_base.specs.Blanks.{trimmed}
use Rattle.idoc_record.proofs.DataLemmas.{text_at-segnam}
use Rattle.idoc_record.proofs.data.segnam_of.Goals as goal

pub returns : goal.returns
returns c =
    c.in-Some.ensures.text ∙ ap (λ n. trimmed (take n c.args.text.now)) c.min.ensures ∙ sym (text_at-segnam c.args.text.now)
