use Rattle.std.proofs.Common.{◌+◌, sym}
use Rattle.std.proofs.lemmas.List.{take_rest}
use Rattle.case_form.proofs.TextLemmas.{has-at}
use Rattle.case_form.proofs.text.cut.Goals as goal

pub returns-in-Some : goal.returns-in-Some
returns-in-Some c =
    rw (take_rest c.args.text.now (c.in-Some.place + 1)) (has-at c.args.at c.args.text.now c.in-Some.place (sym c.in-Some.ensures))
