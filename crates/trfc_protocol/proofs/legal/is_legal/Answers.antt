use Rattle.std.proofs.Common.{arith}
use Rattle.trfc_protocol.proofs.LegalLemmas.{legal_refutes, legal_so_far}
use Rattle.trfc_protocol.proofs.legal.is_legal.Goals as goal

pub returns-then-not-branch : goal.returns-then-not-branch
returns-then-not-branch g c = (
  λ is. cc,
  λ legal. absurd (legal_refutes (g.R.Rules.meaning c.args.rules.now) c.args.system c.args.log.now c.loop-place.place c.index-log-place.result
      c.in_ok-may_follow.field-0 (omega arith) c.index-log-place.is c.in_ok-may_follow.ensures c.if-not-branch.true legal),
)

pub loop-place-preserved : goal.loop-place-preserved
loop-place-preserved g c =
    legal_so_far (g.R.Rules.meaning c.args.rules.now) c.args.system c.args.log.now c.loop-place.place c.index-log-place.result
    c.in_ok-may_follow.field-0 (omega arith) c.index-log-place.is c.in_ok-may_follow.ensures c.if-not-branch.false c.loop-place.invariant
