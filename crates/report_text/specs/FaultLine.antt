-- The last line of a run that read its model and documents and did not end well.
use Rattle.std.specs.Prelude.{ℕ, List, ◌++◌, codes}
use Rattle.std.specs.Fmt.{decimal}
use Rattle.status_log.specs.declared.cause.Cause.{Cause}
use Rattle.status_log.specs.declared.cause.Cause.TheVariants as cause
use Rattle.report_text.specs.declared.faults.FaultLine.{FaultLine}
use Rattle.report_text.specs.declared.faults.FaultLine.TheVariants.{Script, Lines, Journals, Volumes, DownByFault, DownFull}
use Rattle.report_text.specs.Reply.{counted}

-- why a journal is refused: for another system the one that it names and the one expected, for another model the first byte
-- that differs
abbrev pub shown_cause : Cause → List ℕ
shown_cause cause.Damaged = codes "damaged"
shown_cause cause.Unread = codes "unread"
shown_cause (cause.System kept expected) = counted (codes "system") kept ++ (codes " " ++ decimal expected)
shown_cause (cause.Model place) = counted (codes "model") place
shown_cause cause.Illegal = codes "illegal"
shown_cause cause.OnceB = codes "once b"
shown_cause cause.OnceC = codes "once c"
shown_cause cause.OnceE = codes "once e"
shown_cause cause.OnceF = codes "once f"
shown_cause cause.OnceG = codes "once g"
shown_cause cause.Changed = codes "changed"

abbrev pub fault_line : FaultLine → List ℕ
fault_line (Script line) = counted (codes "script refused:") line ++ codes "\n"
fault_line (Lines count) = counted (codes "limit: lines") count ++ codes "\n"
fault_line (Journals system number why) =
    codes "journals refused: " ++ (counted system number ++ (codes " " ++ (shown_cause why ++ codes "\n")))
fault_line Volumes = codes "volumes fault\n"
fault_line (DownByFault system) = codes "down by fault: " ++ (system ++ codes "\n")
fault_line (DownFull system length) = codes "down, full: " ++ (counted system length ++ codes "\n")
