-- What a run of all cases prints, and when all passed.
use Rattle.std.specs.Prelude.{◌≡◌, ℕ, ◌-◌, Bool, true, false, List, ◌++◌, length, codes, count_by, string_bytes, ◌==◌}
use Rattle.std.specs.List.{AllZip, flat_map}
use Rattle.std.specs.Fmt.{decimal}
use Rattle.case_form.specs.declared.judging.CaseFile.{CaseFile}
use Rattle.case_form.specs.declared.judging.JudgedCase.{JudgedCase}
use Rattle.case_form.specs.declared.report.Report.{Report}
use Rattle.case_form.specs.declared.verdict.Outcome.{Outcome}
use Rattle.case_form.specs.Verdict.{passes, steps_of}

-- this came of a case file, as it may by the suite
pub record IsJudgementOf (comes_out : List ℕ → List ℕ → Outcome → Type 0) (file : CaseFile) (judged : JudgedCase) : Type 0 where
  pub named : string_bytes judged.name ≡ string_bytes file.name
  pub outcome : comes_out (string_bytes file.file) file.bytes.items judged.outcome

abbrev pub is_passed : JudgedCase → Bool
is_passed judged = passes judged.outcome

-- the word of a verdict
abbrev pub verdict : Bool → List ℕ
verdict true = codes "ok "
verdict false = codes "failed "

-- how many steps a case has, at the end of its line
abbrev pub shown_steps : ℕ → List ℕ
shown_steps steps = codes " (" ++ decimal steps ++ codes ")\n"

-- what is printed of a case: its details, and a line with its verdict, its name and how many steps it has
abbrev pub case_text : JudgedCase → List ℕ
case_text judged = ((string_bytes judged.details ++ verdict (is_passed judged)) ++ string_bytes judged.name) ++ shown_steps (steps_of judged.outcome)

-- the same of all cases, in order
abbrev pub cases_text : List JudgedCase → List ℕ
cases_text judged = flat_map case_text judged

-- the line that counts the cases
abbrev pub last_line : ℕ → ℕ → List ℕ
last_line passed failed = decimal passed ++ codes " cases passed, " ++ decimal failed ++ codes " failed\n"

-- The report on some case files: something came of each, as it may by the suite; the text has the verdicts in order and
-- counts them; and all passed where the counts say so.
pub record IsReportOn (comes_out : List ℕ → List ℕ → Outcome → Type 0) (files : List CaseFile) (report : Report) : Type 0 where
  pub judged : List JudgedCase
  pub each : AllZip (IsJudgementOf comes_out) files judged
  pub text : string_bytes report.text ≡ cases_text judged ++ last_line (count_by is_passed judged) (length judged - count_by is_passed judged)
  pub passed : report.all_passed ≡ (count_by is_passed judged == length judged)
