use Rattle.case_form.proofs.TextLemmas.{parts-found, parts-none}
use Rattle.case_form.proofs.text.first_part.Goals as goal

pub returns-in-Some-clause-parts : goal.returns-in-Some-clause-parts
returns-in-Some-clause-parts c =
    rw (c.in-Some.ensures.1, c.in-Some.ensures.2) (parts-found c.args.at c.args.text.now c.in-Some.ensures.0)

pub returns-in-None-clause-parts : goal.returns-in-None-clause-parts
returns-in-None-clause-parts c = parts-none c.args.at c.args.text.now c.in-None.ensures
