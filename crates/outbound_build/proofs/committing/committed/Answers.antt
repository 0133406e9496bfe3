use Rattle.std.proofs.Common.{◌≡◌, ◌≤◌, ℕ, ◌+◌, Err, length, take, ap, sym, subst, ◌∙◌, arith}
use Rattle.outbound_build.specs.Committed.{units_behind, units_of}
use Rattle.outbound_build.specs.steps.Behind.{more_of}
use Rattle.outbound_build.specs.declared.committing.Behind.{Behind}
use Rattle.outbound_build.proofs.CommitLemmas.{few-counted, few-next, few-nothing, first-above, kept-begun, kept-next, models-next, units-next}
use Rattle.outbound_build.proofs.LogLemmas.{grown}
use Rattle.outbound_build.proofs.committing.committed.Goals as goal

pub loop-next-init : goal.loop-next-init
loop-next-init c = record {
  kept = c.begun-behind.ensures ∙ kept-begun c.args.models.now;
  few = few-nothing c.args.models.now c.args.log.now;
  room = let none : c.begun-behind.result.models ≡ 0 = ap (λ (b : Behind). b.models) c.begun-behind.ensures in omega arith;
}

pub more_of-requires : goal.more_of-requires
more_of-requires c =
    record { few = few-counted c.args.models.now c.args.log.now c.loop-next.next-index c.loop-next.behind c.loop-next.invariant.kept c.loop-next.invariant.few }

pub returns-in_err-more-clause-too_many : goal.returns-in_err-more-clause-too_many
returns-in_err-more-clause-too_many c count is =
    let from = rw is at c.from_residual.ensures in
    let told = c.in_err-more.ensures.too_many count (ap Err (sym from.1)) in
    first-above c.args.models.now c.args.log.now c.loop-next.next-index c.next-item.result c.loop-next.behind count c.next-item.is c.loop-next-test.true
    c.loop-next.invariant.kept c.loop-next.invariant.few told.0 told.1

pub returns-in_err-more-clause-grows : goal.returns-in_err-more-clause-grows
returns-in_err-more-clause-grows c next = grown c.args.models.now c.args.log.now next

pub returns-in_err-take_in-clause-grows : goal.returns-in_err-take_in-clause-grows
returns-in_err-take_in-clause-grows c next = grown c.args.models.now c.args.log.now next

pub loop-next-preserved : goal.loop-next-preserved
loop-next-preserved c =
    let models = c.args.models.now in
    let log = c.args.log.now in
    let i = c.loop-next.next-index in
    let next = c.next-item.result in
    let behind = c.loop-next.behind in
    let kept = c.loop-next.invariant.kept in
    let count : length (units_of models (take (i + 1) log)) ≡ units_behind behind.outbox (more_of models behind next)
    = units-next models log i next behind c.next-item.is c.loop-next-test.true kept in
    let later : c.take_in.new.behind.models ≤ behind.models + 1
    = subst (λ (n : ℕ). n ≤ behind.models + 1) (sym (ap (λ (b : Behind). b.models) c.in_ok-take_in.ensures)) (models-next behind.models next) in
    record {
      kept =
          kept-next models log i next behind c.take_in.new.behind c.in_ok-more.more c.next-item.is c.loop-next-test.true kept
          c.in_ok-more.ensures.more c.in_ok-take_in.ensures;
      few = few-next models log i c.loop-next.invariant.few (subst (λ (n : ℕ). n ≤ 65536) (sym count) c.in_ok-more.ensures.few);
      room = omega (arith, later, c.loop-next.invariant.room);
    }

pub returns-clause-grows : goal.returns-clause-grows
returns-clause-grows c next = grown c.args.models.now c.args.log.now next
