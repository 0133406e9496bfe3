use Rattle.unit_landscape.proofs.BehindLemmas.{last-behind, to_note-behind, in_step-behind, in_step-fell_behind}
use Rattle.unit_landscape.proofs.noting.note.Goals as goal

pub note-requires-clause-can : goal.note-requires-clause-can
note-requires-clause-can g c =
    to_note-behind g.R.Rules.meaning g.A.Application.stands g.A.Application.goes_with c.args.both.now c.args.system c.args.more.now c.args.claim c.args.extra
    c.requires

pub fall-requires-clause-in_step : goal.fall-requires-clause-in_step
fall-requires-clause-in_step g c =
    in_step-fell_behind g.R.Rules.meaning g.A.Application.stands g.A.Application.goes_with c.args.both.now c.args.system c.args.more.now c.args.claim
    c.args.extra
    c.requires c.note.new.self c.in-Err.ensures.err c.note.ensures.units

pub returns-in-Ok-clause-in_step : goal.returns-in-Ok-clause-in_step
returns-in-Ok-clause-in_step g c =
    in_step-behind g.R.Rules.meaning g.A.Application.stands g.A.Application.goes_with c.args.both.now c.args.system c.args.more.now c.args.claim c.args.extra
    c.requires c.note.new.self c.in-Ok.ensures.world
    (c.in-Ok.ensures.noted c.requires.next
    (last-behind g.R.Rules.meaning g.A.Application.stands g.A.Application.goes_with c.args.both.now c.args.system c.args.more.now c.args.claim c.args.extra
    c.requires))
