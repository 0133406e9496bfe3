use Rattle.std.proofs.Common.{◌≡◌, ◌≤◌, Ok, length}
use Rattle.ale_base.specs.Lines.{lines_of}
use Rattle.script_text.specs.Script.{lines_read, both, script_of}
use Rattle.script_text.proofs.script.read.Given as goal

abbrev pub invariant-loop-line : goal.invariant-loop-line
invariant-loop-line l = (l.number ≤ 100001) × (script_of l.bytes ≡ both (Ok l.commands) (lines_read l.number (lines_of l.rest)))

abbrev pub decreases-loop-line : goal.decreases-loop-line
decreases-loop-line l = length l.rest
