use Rattle.std.proofs.Common.{length}
use Rattle.ale_os.proofs.shown.write_line.Given as goal

-- what is left of the line
abbrev pub decreases-loop-byte : goal.decreases-loop-byte
decreases-loop-byte g l = length l.rest
