use Rattle.std.proofs.Common.{take}
use Rattle.case_form.specs.Answered.{AreAnswered}
use Rattle.case_form.proofs.answering.steps_on.Given as goal

abbrev pub invariant-loop-item : goal.invariant-loop-item
invariant-loop-item g l = AreAnswered g.B.Bench.sets_up g.B.Bench.finds (take l.item-index l.items) l.steps
