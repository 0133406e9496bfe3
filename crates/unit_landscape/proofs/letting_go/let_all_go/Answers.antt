use Rattle.std.specs.Prelude.{drop}
use Rattle.std.proofs.Common.{◌≡◌, ◌+◌, suc, ◌∷◌, subst, arith}
use Rattle.trfc_protocol.specs.Safe.{AreApart}
use Rattle.unit_landscape.specs.InStep.{AreInStep}
use Rattle.unit_landscape.proofs.ClaimsLemmas.{claim_at-first, first-gone}
use Rattle.unit_landscape.proofs.InStepLemmas.{drop-at, drop_all}
use Rattle.unit_landscape.proofs.letting_go.let_all_go.Goals as goal

pub loop-held-init : goal.loop-held-init
loop-held-init g c = record { apart = c.requires.apart; in_step = c.requires.in_step }

pub let_go-requires : goal.let_go-requires
let_go-requires g c =
    let first = drop-at c.args.claims.now c.loop-held.held-index c.held-item.result c.loop-held-test.true c.held-item.is in
    record {
      claims = c.held-item.result ∷ drop (suc c.loop-held.held-index) c.args.claims.now;
      in_step = subst (λ claims. AreInStep g.A.Application.stands (g.R.Rules.meaning c.args.world.now.rules) c.args.world.now.systems claims c.loop-held.tables)
          first c.loop-held.invariant.in_step;
      found = claim_at-first c.held-item.result (drop (suc c.loop-held.held-index) c.args.claims.now);
    }

pub loop-held-preserved : goal.loop-held-preserved
loop-held-preserved g c =
    let first = drop-at c.args.claims.now c.loop-held.held-index c.held-item.result c.loop-held-test.true c.held-item.is in
    let rest = drop (suc c.loop-held.held-index) c.args.claims.now in
    let apart : AreApart (c.held-item.result ∷ rest) = subst AreApart first c.loop-held.invariant.apart in
    let next : suc c.loop-held.held-index ≡ c.loop-held.held-index + 1 = omega arith in
    let is = c.let_go.ensures (c.held-item.result ∷ rest) rest
    (subst (λ claims. AreInStep g.A.Application.stands (g.R.Rules.meaning c.args.world.now.rules) c.args.world.now.systems claims c.loop-held.tables)
    first c.loop-held.invariant.in_step) (first-gone c.held-item.result rest apart) in
    record {
      apart = subst (λ n. AreApart (drop n c.args.claims.now)) next apart.2;
      in_step = subst (λ n. AreInStep g.A.Application.stands (g.R.Rules.meaning c.args.world.now.rules) c.args.world.now.systems (drop n c.args.claims.now)
          c.let_go.new.tables) next is;
    }

pub returns : goal.returns
returns g c =
    subst (λ claims. AreInStep g.A.Application.stands (g.R.Rules.meaning c.args.world.now.rules) c.args.world.now.systems claims c.loop-held.tables)
    (drop_all c.args.claims.now c.loop-held.held-index (omega arith)) c.loop-held.invariant.in_step
