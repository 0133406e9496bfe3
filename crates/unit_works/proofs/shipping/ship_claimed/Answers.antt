use Rattle.std.proofs.Common.{false, sym, ◌∙◌}
use Rattle.unit_works.specs.Events.{is_shipping, is_work}
use Rattle.unit_works.proofs.WorkedLemmas.{claim-shipped, claim-shipped-short, shipping-works, wider}
use Rattle.unit_works.proofs.shipping.ship_claimed.Goals as goal

pub returns-in_err-finished : goal.returns-in_err-finished
returns-in_err-finished g c =
    claim-shipped-short g.V.Volumes.disk c.args.landscape.now c.ship.new.landscape c.args.wires.now c.take-letter.new.self c.args.claim
    c.from_residual.result c.from_residual.ensures.0
    (wider g.V.Volumes.disk (is_shipping c.take-letter.result) is_work false c.args.landscape.now c.ship.new.landscape
    (shipping-works c.take-letter.result) c.in_err-finished.ensures.went)

pub returns : goal.returns
returns g c =
    claim-shipped g.V.Volumes.disk c.args.landscape.now c.ship.new.landscape c.args.wires.now c.take-letter.new.self c.args.claim
    c.tid.result c.take-letter.result c.in_ok-finished.finished c.world.ensures.safe
    (sym c.holds.ensures ∙ c.if-not-holds.false)
    c.tid.ensures c.take-letter.ensures.letter c.take-letter.ensures.rest
    c.in_ok-finished.ensures.went c.in_ok-finished.ensures.finished c.in_ok-finished.ensures.left c.in_ok-finished.ensures.grew
