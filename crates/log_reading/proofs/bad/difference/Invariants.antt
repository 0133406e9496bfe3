use Rattle.std.proofs.Common.{◌≡◌, take}
use Rattle.log_reading.proofs.bad.difference.Given as goal

-- the texts are the same so far
abbrev pub invariant-loop-place : goal.invariant-loop-place
invariant-loop-place l = take l.place l.one ≡ take l.place l.other
