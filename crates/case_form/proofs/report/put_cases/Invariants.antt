use Rattle.std.proofs.Common.{◌≡◌, ◌++◌, string_bytes, take}
use Rattle.case_form.specs.Report.{cases_text}
use Rattle.case_form.proofs.report.put_cases.Given as goal

abbrev pub invariant-loop-case : goal.invariant-loop-case
invariant-loop-case l = string_bytes l.text ≡ string_bytes l.fn.text ++ cases_text (take l.case-index l.judged)
