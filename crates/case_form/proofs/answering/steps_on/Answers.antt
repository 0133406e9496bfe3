use Rattle.std.proofs.Common.{take, sym}
use Rattle.std.proofs.lemmas.List.{take_more}
use Rattle.case_form.specs.Answered.{IsEndIn}
use Rattle.case_form.proofs.AnsweredLemmas.{AreAnswered-more, IfErr-from, IsEndIn-at}
use Rattle.case_form.proofs.answering.steps_on.Goals as goal

pub loop-item-preserved : goal.loop-item-preserved
loop-item-preserved g c =
    let more = take_more c.args.items.now c.loop-item.item-index c.item-item.result c.loop-item-test.true in
    rw (more, ← c.item-item.is)
    (AreAnswered-more g.B.Bench.sets_up g.B.Bench.finds (take c.loop-item.item-index c.args.items.now) c.loop-item.steps _ c.item-item.result c.loop-item.invariant
    c.in_ok-put_step.ensures.step)

pub returns-in_err-put_step-clause-fault : goal.returns-in_err-put_step-clause-fault
returns-in_err-put_step-clause-fault g c =
    IfErr-from c.from_residual.result c.in_err-put_step.field-0.0 (IsEndIn c.args.items.now) c.from_residual.ensures.1
    (IsEndIn-at c.args.items.now c.item-item.result c.in_err-put_step.field-0.0 (c.loop-item.item-index, c.loop-item-test.true, sym c.item-item.is)
    c.in_err-put_step.ensures.fault)
