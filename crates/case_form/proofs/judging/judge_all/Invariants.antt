use Rattle.std.proofs.Common.{take}
use Rattle.std.specs.List.{AllZip}
use Rattle.case_form.specs.Report.{IsJudgementOf}
use Rattle.case_form.proofs.judging.judge_all.Given as goal

abbrev pub invariant-loop-file : goal.invariant-loop-file
invariant-loop-file g l = AllZip (IsJudgementOf (g.S.Suite.comes_out l.suite l.texts)) (take l.file-index l.files) l.judged.items
