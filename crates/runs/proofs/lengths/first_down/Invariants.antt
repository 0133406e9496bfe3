use Rattle.std.proofs.Common.{◌≡◌, suc, drop}
use Rattle.runs.specs.Turns.{down_from}
use Rattle.runs.proofs.lengths.first_down.Given as goal

-- none of those that were looked at is down
abbrev pub invariant-loop-place : goal.invariant-loop-place
invariant-loop-place l = down_from (suc l.place) (drop l.place l.systems) ≡ down_from 1 l.systems
