use Rattle.std.proofs.Common.{◌∙◌, arith}
use Rattle.model_growth.proofs.ZipLemmas.{pointwise_zip}
use Rattle.model_growth.proofs.entry.keep_all.Goals as goal

pub returns-then-len : goal.returns-then-len
returns-then-len g c =
    c.keep_in_pairs.ensures
    ∙ pointwise_zip (g.E.Entry.keeps c.args.old.now c.args.new.now) c.args.entries.now c.args.others.now (omega arith)
