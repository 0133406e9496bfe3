-- The commands of a script, or the fault of its first line that is not read.
use Rattle.std.specs.Prelude.{ℕ, ◌+◌, ◌==◌, ◌||◌, nat_lt, Bool, false, Option, Some, None, Result, Ok, Err, List, [], ◌∷◌, ◌++◌, length, if◌then◌else◌}
use Rattle.std.specs.List.{list_all}
use Rattle.ale_base.specs.Lines.{lines_of}
use Rattle.script_text.specs.declared.command.Command.{Command}
use Rattle.script_text.specs.declared.fault.ScriptFault.{ScriptFault}
use Rattle.script_text.specs.declared.fault.ScriptFault.TheVariants.{Line, TooMany}
use Rattle.script_text.specs.declared.form.Form.{Form}
use Rattle.script_text.specs.declared.script.TheConstants.{MAX_LINE, MAX_LINES}
use Rattle.script_text.specs.Words.{is_gap, words_of}
use Rattle.script_text.specs.Forms.{form_of}

-- what is read of lines: their commands in order, or a fault
abbrev pub Reading : Type 0
Reading = Result (List Command) ScriptFault

-- the first byte is `#`
abbrev pub is_comment : List ℕ → Bool
is_comment [] = false
is_comment (b ∷ rest) = b == 35

-- comments and lines of no word are skipped and counted
abbrev pub is_skipped : List ℕ → Bool
is_skipped line = is_comment line || list_all is_gap line

-- a line of this number holds these commands, where it is not one too many
abbrev pub within : ℕ → List Command → Reading
within n commands = if nat_lt MAX_LINES n then Err (TooMany n) else Ok commands

-- a line that is not skipped is a command, or it is none
abbrev pub command_read : ℕ → Option Form → Reading
command_read n None = Err (Line n)
command_read n (Some form) = within n (record { line = n; form = form } ∷ [])

-- the line of this number. A line that is too long is no command, whatever it holds
abbrev pub line_read : ℕ → List ℕ → Reading
line_read n line =
    if nat_lt MAX_LINE (length line) then Err (Line n)
    else (if is_skipped line then within n [] else command_read n (form_of (words_of line)))

-- the commands of both, or the first fault
abbrev pub both : Reading → Reading → Reading
both (Err fault) behind = Err fault
both (Ok commands) (Err fault) = Err fault
both (Ok commands) (Ok more) = Ok (commands ++ more)

-- lines that are numbered from n
abbrev pub lines_read : ℕ → List (List ℕ) → Reading
lines_read n [] = Ok []
lines_read n (line ∷ lines) = both (line_read n line) (lines_read (n + 1) lines)

-- the commands that the bytes of a script say, or the fault of the first line that is not read
abbrev pub script_of : List ℕ → Reading
script_of bytes = lines_read 1 (lines_of bytes)
