use Rattle.std.proofs.Common.{◌+◌, Ok, List, ℕ, ap, ◌∙◌, arith}
use Rattle.ale_base.specs.Lines.{lines_of}
use Rattle.script_text.specs.Script.{line_read, lines_read, both}
use Rattle.script_text.proofs.ScriptLemmas.{both_more}
use Rattle.script_text.proofs.script.read.Goals as goal

pub loop-line-preserved : goal.loop-line-preserved
loop-line-preserved c =
    let number = c.loop-line.number in
    let front = c.loop-line.commands in (
      omega (arith, c.in_ok-read_line.ensures.within),
      c.loop-line.invariant.1
          ∙ ap (λ (lines : List (List ℕ)). both (Ok front) (lines_read number lines)) c.in-Some.ensures.found.0
          ∙ both_more front c.read_line.new.commands (line_read number c.in-Some.line.now)
          (lines_read (number + 1) (lines_of c.in-Some.behind.now)) c.in_ok-read_line.ensures.read,
    )
