use Rattle.std.specs.Prelude.{IfSome}
use Rattle.std.proofs.Common.{true, false, subst}
use Rattle.unit_works.specs.Events.{is_claim, is_shipping, is_work}
use Rattle.unit_works.specs.Claiming.{IsShipped}
use Rattle.unit_works.proofs.WorkedLemmas.{claim-works, meaning, on, shipped, shipped-short, shipping-works, wider}
use Rattle.unit_works.proofs.shipping.ship_next.Goals as goal

pub returns-in_err-claim : goal.returns-in_err-claim
returns-in_err-claim g c =
    shipped-short g.V.Volumes.disk c.args.landscape.now c.claim_to_ship.new.landscape c.args.wires.now c.args.wires.now c.args.system c.from_residual.result
    c.from_residual.ensures.0
    (wider g.V.Volumes.disk is_claim is_work false c.args.landscape.now c.claim_to_ship.new.landscape claim-works c.in_err-claim.ensures.went)

pub returns-in_err-finished : goal.returns-in_err-finished
returns-in_err-finished g c =
    shipped-short g.V.Volumes.disk c.args.landscape.now c.ship.new.landscape c.args.wires.now c.take-letter.new.self c.args.system
    c.from_residual-in_err-finished.result c.from_residual-in_err-finished.ensures.0
    (on g.V.Volumes.disk is_work false c.args.landscape.now c.claim_to_ship.new.landscape c.ship.new.landscape
    (wider g.V.Volumes.disk is_claim is_work true c.args.landscape.now c.claim_to_ship.new.landscape claim-works c.in_ok-claim.ensures.went)
    (wider g.V.Volumes.disk (is_shipping c.take-letter.result) is_work false c.claim_to_ship.new.landscape c.ship.new.landscape
    (shipping-works c.take-letter.result)
    c.in_err-finished.ensures.went))

pub returns : goal.returns
returns g c =
    let is = subst (λ found. IfSome found (IsShipped (meaning c.args.landscape.now.world.rules) c.args.landscape.now.world c.claim_to_ship.new.landscape.world
    c.args.system))
    c.in-Some.is c.in_ok-claim.ensures.claim in
    shipped g.V.Volumes.disk c.args.landscape.now c.claim_to_ship.new.landscape c.ship.new.landscape c.args.wires.now c.take-letter.new.self c.args.system
    c.in-Some.claim
    c.tid.result c.take-letter.result c.in_ok-finished.finished
    c.in_ok-claim.ensures.went c.claim_to_ship.ensures.finished is c.tid.ensures c.take-letter.ensures.letter c.take-letter.ensures.rest
    c.in_ok-finished.ensures.went c.in_ok-finished.ensures.finished c.in_ok-finished.ensures.left c.in_ok-finished.ensures.grew
