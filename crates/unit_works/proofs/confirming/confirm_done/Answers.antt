use Rattle.std.proofs.Common.{true, false, inl, inr}
use Rattle.unit_works.specs.Events.{is_confirmation}
use Rattle.unit_works.proofs.TripLemmas.{due-parts}
use Rattle.unit_works.proofs.WorkedLemmas.{confirmed-done, confirmed-down, ended-on, on, short-of}
use Rattle.unit_works.proofs.confirming.confirm_done.Goals as goal

pub returns-in_err-_closed-in-Forgotten-clause-went : goal.returns-in_err-_closed-in-Forgotten-clause-went
returns-in_err-_closed-in-Forgotten-clause-went g c =
    short-of g.V.Volumes.disk is_confirmation c.args.landscape.now c.end.new.landscape
    c.from_residual-in_err-_closed-in-Forgotten.result c.from_residual-in_err-_closed-in-Forgotten.ensures.0
    (on g.V.Volumes.disk is_confirmation false c.args.landscape.now c.send.new.landscape c.end.new.landscape c.in_ok-confirmed.ensures.went
    c.in_err-_closed-in-Forgotten.ensures.went)

pub returns-in_ok-_closed-in-Forgotten-clause-went : goal.returns-in_ok-_closed-in-Forgotten-clause-went
returns-in_ok-_closed-in-Forgotten-clause-went g c =
    on g.V.Volumes.disk is_confirmation true c.args.landscape.now c.send.new.landscape c.end.new.landscape c.in_ok-confirmed.ensures.went
    c.in_ok-_closed-in-Forgotten.ensures.went

pub returns-in_ok-_closed-in-Forgotten-clause-ended : goal.returns-in_ok-_closed-in-Forgotten-clause-ended
returns-in_ok-_closed-in-Forgotten-clause-ended g c =
    ended-on g.V.Volumes.disk is_confirmation c.args.landscape.now c.send.new.landscape c.end.new.landscape 0 0 c.in_ok-confirmed.ensures.went
    c.in_ok-_closed-in-Forgotten.ensures.went c.in_ok-confirmed.ensures.ended c.in_ok-_closed-in-Forgotten.ensures.ended

pub returns-in_ok-_closed-in-Forgotten-clause-due : goal.returns-in_ok-_closed-in-Forgotten-clause-due
returns-in_ok-_closed-in-Forgotten-clause-due g c = λ unit named due.
    let parts = due-parts c.args.landscape.now.world unit due in
    confirmed-done g.V.Volumes.disk c.args.landscape.now c.send.new.landscape c.end.new.landscape c.args.tid unit c.in_ok-confirmed.confirmed
    due (c.in_ok-confirmed.ensures.sent unit named parts.1) (λ down. elim c.in-Forgotten.is [ inl forgotten ↦ cc | inr already ↦ cc ])
    c.in_ok-_closed-in-Forgotten.ensures.grew

pub returns-in-Down-clause-due : goal.returns-in-Down-clause-due
returns-in-Down-clause-due g c = λ unit named due.
    let parts = due-parts c.args.landscape.now.world unit due in
    confirmed-down g.V.Volumes.disk c.args.landscape.now c.send.new.landscape c.args.tid unit c.in_ok-confirmed.confirmed
    (c.in_ok-confirmed.ensures.sent unit named parts.1) c.in-Down.is
