use Rattle.model_text.specs.Model.{subjects_of, subjects_on}
use Rattle.model_text.proofs.subjects.subjects_of.Goals as goal

pub returns-in-Err : goal.returns-in-Err
unfolding subjects_of subjects_on
returns-in-Err c = rw (c.in_ok-kinds.ensures.given, c.in_ok-messages.ensures.given) (c.in-Err.ensures.given c.in_ok-kinds.kinds.things)

pub returns-in-Ok : goal.returns-in-Ok
unfolding subjects_of subjects_on
returns-in-Ok c =
    rw (c.in_ok-kinds.ensures.given, c.in_ok-messages.ensures.given, c.together.ensures) (c.in-Ok.ensures.given c.in_ok-kinds.kinds.things)
