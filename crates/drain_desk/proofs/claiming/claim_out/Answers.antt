use Rattle.std.specs.Prelude.{IfSome, IsNone}
use Rattle.std.specs.Result.{is_ok}
use Rattle.std.proofs.Common.{true, refl, sym, subst}
use Rattle.std.proofs.lemmas.Bool.{both_ways}
use Rattle.unit_works.specs.Events.{is_claim}
use Rattle.unit_works.specs.Claiming.{IsShipped}
use Rattle.unit_works.proofs.WorkedLemmas.{meaning}
use Rattle.drain_desk.specs.Work.{IsBasis}
use Rattle.drain_desk.proofs.ClaimingLemmas.{claims-out, claims-same, may-out, whole-or-not}
use Rattle.drain_desk.proofs.claiming.claim_out.Goals as goal

pub returns-in_err-claim_to_ship-clause-claims : goal.returns-in_err-claim_to_ship-clause-claims
returns-in_err-claim_to_ship-clause-claims g c =
    claims-same g.V.Volumes.disk c.args.landscape.now c.claim_to_ship.new.landscape (is_ok c.from_residual.result) c.in_err-claim_to_ship.ensures.err

pub returns-in-None-clause-claims : goal.returns-in-None-clause-claims
returns-in-None-clause-claims g c =
    claims-same g.V.Volumes.disk c.args.landscape.now c.claim_to_ship.new.landscape true
    (c.in_ok-claim_to_ship.ensures.none (subst IsNone (sym c.in-None.is) refl)).0

pub returns-in_err-basis-in-Some-clause-claims : goal.returns-in_err-basis-in-Some-clause-claims
returns-in_err-basis-in-Some-clause-claims g c =
    let is = subst (λ found. IfSome found (IsShipped (meaning c.args.landscape.now.world.rules) c.args.landscape.now.world c.claim_to_ship.new.landscape.world
    c.args.system))
    c.in-Some.is c.in_ok-claim_to_ship.ensures.claim in
    claims-out g.V.Volumes.disk c.args.landscape.now c.claim_to_ship.new.landscape (is_ok c.from_residual-in_err-basis-in-Some.result) c.args.system
    c.in-Some.claim
    (whole-or-not is_claim g.V.Volumes.disk c.args.landscape.now c.claim_to_ship.new.landscape (is_ok c.from_residual-in_err-basis-in-Some.result)
    c.in_ok-claim_to_ship.ensures.went) c.in_ok-claim_to_ship.ensures.only is

pub returns-in_ok-basis-in-Some-clause-claims : goal.returns-in_ok-basis-in-Some-clause-claims
returns-in_ok-basis-in-Some-clause-claims g c =
    let is = subst (λ found. IfSome found (IsShipped (meaning c.args.landscape.now.world.rules) c.args.landscape.now.world c.claim_to_ship.new.landscape.world
    c.args.system))
    c.in-Some.is c.in_ok-claim_to_ship.ensures.claim in
    claims-out g.V.Volumes.disk c.args.landscape.now c.claim_to_ship.new.landscape true c.args.system c.in-Some.claim
    c.in_ok-claim_to_ship.ensures.went c.in_ok-claim_to_ship.ensures.only is

pub returns-in_ok-basis-in-Some-clause-offer : goal.returns-in_ok-basis-in-Some-clause-offer
returns-in_ok-basis-in-Some-clause-offer g c =
    let is = subst (λ found. IfSome found (IsShipped (meaning c.args.landscape.now.world.rules) c.args.landscape.now.world c.claim_to_ship.new.landscape.world
    c.args.system))
    c.in-Some.is c.in_ok-claim_to_ship.ensures.claim in
    record {
      to_do = is.stands;
      may = may-out g.V.Volumes.disk c.args.landscape.now c.claim_to_ship.new.landscape c.args.system c.in-Some.claim c.in_ok-claim_to_ship.ensures.only is;
      base = subst (λ t. IsBasis c.claim_to_ship.new.landscape.world t c.in_ok-basis-in-Some.basis) c.tid.ensures c.in_ok-basis-in-Some.ensures;
    }

pub returns-in_ok-basis-in-Some-clause-busy : goal.returns-in_ok-basis-in-Some-clause-busy
returns-in_ok-basis-in-Some-clause-busy g c = λ idle.
    let is = subst (λ found. IfSome found (IsShipped (meaning c.args.landscape.now.world.rules) c.args.landscape.now.world
    c.claim_to_ship.new.landscape.world
    c.args.system))
    c.in-Some.is c.in_ok-claim_to_ship.ensures.claim in
    both_ways _ (idle.outbound c.in-Some.claim.tid) is.offered
