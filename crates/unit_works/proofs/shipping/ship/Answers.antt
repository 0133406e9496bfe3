use Rattle.std.proofs.Common.{true, false}
use Rattle.unit_works.specs.Events.{is_confirming, is_delivery, is_reply, is_shipping}
use Rattle.unit_works.proofs.WorkedLemmas.{shipped-appended, shipped-left, ships-confirmed, ships-delivered, ships-replied, short-of}
use Rattle.unit_works.proofs.shipping.ship.Goals as goal

pub returns-in_err-answered-clause-went : goal.returns-in_err-answered-clause-went
returns-in_err-answered-clause-went g c =
    short-of g.V.Volumes.disk (is_shipping c.args.letter) c.args.landscape.now c.deliver_under.new.landscape c.from_residual.result c.from_residual.ensures.0
    (ships-delivered g.V.Volumes.disk c.args.letter false c.args.landscape.now c.deliver_under.new.landscape c.in_err-answered.ensures.went)

pub returns-in_err-reply-clause-went : goal.returns-in_err-reply-clause-went
returns-in_err-reply-clause-went g c =
    short-of g.V.Volumes.disk (is_shipping c.args.letter) c.args.landscape.now c.reply.new.landscape
    c.from_residual-in_err-reply.result c.from_residual-in_err-reply.ensures.0
    (ships-replied g.V.Volumes.disk c.args.letter false c.args.landscape.now c.deliver_under.new.landscape c.reply.new.landscape c.in_ok-answered.answered.given
    c.told_under-told.result c.told_under-told.ensures c.in_ok-answered.ensures.went c.in_err-reply.ensures.went)

pub returns-in_err-confirm_under-clause-went : goal.returns-in_err-confirm_under-clause-went
returns-in_err-confirm_under-clause-went g c =
    short-of g.V.Volumes.disk (is_shipping c.args.letter) c.args.landscape.now c.confirm_under.new.landscape
    c.from_residual-in_err-confirm_under.result c.from_residual-in_err-confirm_under.ensures.0
    (ships-confirmed g.V.Volumes.disk c.args.letter false c.args.landscape.now c.reply.new.landscape c.confirm_under.new.landscape
    (ships-replied g.V.Volumes.disk c.args.letter true c.args.landscape.now c.deliver_under.new.landscape c.reply.new.landscape c.in_ok-answered.answered.given
    c.told_under-told.result c.told_under-told.ensures c.in_ok-answered.ensures.went c.in_ok-reply.ensures.went) c.in_err-confirm_under.ensures.went)

pub returns-clause-went : goal.returns-clause-went
returns-clause-went g c =
    ships-confirmed g.V.Volumes.disk c.args.letter true c.args.landscape.now c.reply.new.landscape c.confirm_under.new.landscape
    (ships-replied g.V.Volumes.disk c.args.letter true c.args.landscape.now c.deliver_under.new.landscape c.reply.new.landscape c.in_ok-answered.answered.given
    c.told_under-told.result c.told_under-told.ensures c.in_ok-answered.ensures.went c.in_ok-reply.ensures.went) c.in_ok-confirm_under.ensures.went

pub returns-clause-grew : goal.returns-clause-grew
returns-clause-grew g c =
    shipped-appended g.V.Volumes.disk c.args.landscape.now c.deliver_under.new.landscape c.reply.new.landscape c.confirm_under.new.landscape c.args.claim
    c.args.letter
    c.in_ok-answered.answered.given c.told_under-told.result c.tid-tid.result c.world.ensures.safe c.requires.stands c.told_under-told.ensures c.tid-tid.ensures
    c.in_ok-answered.ensures.went c.in_ok-reply.ensures.went c.in_ok-answered.ensures.grew c.in_ok-reply.ensures.grew c.in_ok-reply.ensures.stale
    c.in_ok-confirm_under.ensures.due c.confirm_under.ensures.same

pub returns-clause-left : goal.returns-clause-left
returns-clause-left g c =
    let ended = c.in_ok-confirm_under.ensures.ended in
    shipped-left g.V.Volumes.disk (is_delivery c.args.letter) (is_reply c.told_under-told.result) (is_shipping c.args.letter) (is_confirming c.args.letter)
    c.args.landscape.now c.deliver_under.new.landscape c.reply.new.landscape c.confirm_under.new.landscape c.in_ok-answered.ensures.went c.in_ok-reply.ensures.went
    (ships-replied g.V.Volumes.disk c.args.letter true c.args.landscape.now c.deliver_under.new.landscape c.reply.new.landscape c.in_ok-answered.answered.given
    c.told_under-told.result c.told_under-told.ensures c.in_ok-answered.ensures.went c.in_ok-reply.ensures.went) c.in_ok-confirm_under.ensures.went
    c.args.claim c.requires.stands c.in_ok-answered.ensures.claims c.in_ok-reply.ensures.left c.in_ok-reply.ensures.stale ended.claims
