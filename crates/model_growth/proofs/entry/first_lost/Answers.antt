use Rattle.std.specs.Prelude.{not}
use Rattle.std.specs.List.{list_any}
use Rattle.std.proofs.lemmas.Iterator.Adapters.{position_from-zero}
use Rattle.model_growth.proofs.entry.first_lost.Goals as goal

pub loop-place-init : goal.loop-place-init
loop-place-init g c =
    position_from-zero (λ (entry : _). not (list_any (g.E.Entry.keeps c.args.old.now c.args.new.now entry) c.args.others.now)) c.args.entries.now
