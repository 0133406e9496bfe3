-- The rules of case files, by their texts, and who tells which.
use Rattle.std.specs.Prelude.{◌≡◌, ℕ, Result, Ok, Err, List, codes}
use Rattle.std.specs.Bool.{⊤}
use Rattle.case_form.specs.declared.rule.LineEnd.{LineEnd}
use Rattle.case_form.specs.declared.rule.LineEnd.TheVariants.{Broken, OutOfMemory}
use Rattle.case_form.specs.declared.rule.CaseFault.{CaseFault}
use Rattle.case_form.specs.declared.rule.CaseFault.TheVariants as fault

unfoldable pub not_named_case : List ℕ
not_named_case = codes "the name of a case file ends in .case"

unfoldable pub blank_at_end : List ℕ
blank_at_end = codes "a line of a case file ends in no blank: write {blank}"

unfoldable pub one_title : List ℕ
one_title = codes "a case has one title, before all other items"

unfoldable pub no_item : List ℕ
no_item = codes "a case has an item behind its title, and behind a mark"

unfoldable pub no_block : List ℕ
no_block = codes "lines that are indented belong to an item that has a block"

unfoldable pub open_brace : List ℕ
open_brace = codes "a brace is not closed"

unfoldable pub bad_number : List ℕ
bad_number = codes "a count is decimal digits, and a byte is # and a number up to 255"

-- what is read of a line, or the rule that it breaks
abbrev pub Reading : Type 0 → Type 0
Reading A = Result A (List ℕ)

-- the line breaks the rule that is told
abbrev pub IsBroken : {A : Type 0} → Reading A → LineEnd → Type 0
IsBroken reading (Broken rule) = reading ≡ Err rule.0.now
IsBroken reading OutOfMemory = ⊥

-- the same, or memory ran out
abbrev pub IsEndOf : {A : Type 0} → Reading A → LineEnd → Type 0
IsEndOf reading (Broken rule) = reading ≡ Err rule.0.now
IsEndOf reading OutOfMemory = ⊤

-- a line of this number breaks this rule
pub record Breach : Type 0 where
  pub line : ℕ
  pub rule : List ℕ

-- what is read of lines, or the first one that breaks a rule
abbrev pub Outcome : Type 0 → Type 0
Outcome A = Result A Breach

-- the same of a line of this number
abbrev pub at_line : {A : Type 0} → ℕ → Reading A → Outcome A
at_line n (Ok a) = Ok a
at_line n (Err rule) = Err (record { line = n; rule = rule })

-- the line that is told breaks the rule that is told, or memory ran out
abbrev pub IsFaultOf : {A : Type 0} → Outcome A → CaseFault → Type 0
IsFaultOf outcome (fault.Malformed line rule) = outcome ≡ Err (record { line = line; rule = rule.0.now })
IsFaultOf outcome fault.OutOfMemory = ⊤

-- the same, at the line of this number
abbrev pub at : ℕ → LineEnd → CaseFault
at line (Broken rule) = fault.Malformed line rule
at line OutOfMemory = fault.OutOfMemory
