use Rattle.std.proofs.Common.{sym, ap, ◌∙◌}
use Rattle.std.proofs.Math.ListN.{drop_of_length-le}
use Rattle.std.proofs.lemmas.List.{take_rest}
use Rattle.ale_base.specs.Blanks.{trimmed}
use Rattle.idoc_record.proofs.DataLemmas.{text_at-sdata}
use Rattle.idoc_record.proofs.data.sdata_of.Goals as goal

pub returns-then-text-le-SDATA_OFFSET : goal.returns-then-text-le-SDATA_OFFSET
returns-then-text-le-SDATA_OFFSET c =
    sym (text_at-sdata c.args.text.now c.requires ∙ ap trimmed (drop_of_length-le c.args.text.now c.if-text-le-SDATA_OFFSET.true))

pub returns : goal.returns
returns c = c.trimmed.ensures ∙ ap trimmed (take_rest c.args.text.now 63) ∙ sym (text_at-sdata c.args.text.now c.requires)
