use Rattle.std.proofs.Common.{◌∙◌, sym}
use Rattle.model_growth.proofs.PlaceLemmas.{any-at}
use Rattle.model_growth.proofs.entry.stands_in.Goals as goal

pub returns-then-keeps_at : goal.returns-then-keeps_at
returns-then-keeps_at g c =
    c.if-keeps_at.true ∙ sym (any-at (g.E.Entry.keeps c.args.old.now c.args.new.now c.args.entry.now) c.args.others.now c.args.place
    (sym c.keeps_at.ensures ∙ c.if-keeps_at.true))
