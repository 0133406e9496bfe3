use Rattle.std.proofs.Common.{sym, ap, ◌∙◌}
use Rattle.std.specs.Prelude.{nat_lt}
use Rattle.idoc_tree.proofs.SiblingLemmas.{has_later-last}
use Rattle.idoc_tree.proofs.growing.has_later.Goals as goal

pub returns-in-Some : goal.returns-in-Some
returns-in-Some c =
    ap (nat_lt c.args.place) c.place_of.ensures
    ∙ sym (has_later-last c.args.ty.now.segments c.args.place c.args.among.now c.in-Some.last.now c.requires (sym c.in-Some.ensures.value))
