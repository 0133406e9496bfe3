use Rattle.std.proofs.Common.{take}
use Rattle.std.proofs.lemmas.List.{take_more}
use Rattle.ale_base.proofs.SnocLemmas.{AllZip-snoc}
use Rattle.case_form.specs.declared.judging.CaseFile.{CaseFile}
use Rattle.case_form.specs.declared.judging.JudgedCase.{JudgedCase}
use Rattle.case_form.specs.Report.{IsJudgementOf}
use Rattle.case_form.proofs.judging.judge_all.Goals as goal

pub loop-file-preserved : goal.loop-file-preserved
loop-file-preserved g c =
    let R : CaseFile → JudgedCase → Type 0 = IsJudgementOf (g.S.Suite.comes_out c.args.suite.now c.args.texts.now) in
    let more = take_more c.args.files.now c.loop-file.file-index c.file-item.result c.loop-file-test.true in
    rw (c.in_ok-push.ensures.items, more, ← c.file-item.is)
    (AllZip-snoc R (take c.loop-file.file-index c.args.files.now) c.loop-file.judged.items c.file-item.result c.in_ok-judge.field-0 c.loop-file.invariant
    c.in_ok-judge.ensures)
