use Rattle.std.proofs.Common.{◌≡◌, Ok, map, sym, subst}
use Rattle.case_form.specs.Items.{file_read, seen}
use Rattle.case_form.proofs.AnsweredLemmas.{IsAnswered-of}
use Rattle.case_form.proofs.answering.outcome_on.Goals as goal

pub returns-in-Ok : goal.returns-in-Ok
returns-in-Ok g c =
    IsAnswered-of g.B.Bench.sets_up g.B.Bench.finds c.args.file.now c.args.bytes.now c.as_slice.result.now c.steps_on.result c.of.result
    (subst (λ items. file_read c.args.file.now c.args.bytes.now ≡ Ok (map seen items)) (sym c.as_slice.ensures.value) c.in-Ok.ensures.items)
    c.steps_on.ensures.steps c.steps_on.ensures.fault c.of.ensures
