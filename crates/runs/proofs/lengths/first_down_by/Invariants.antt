use Rattle.std.proofs.Common.{◌≡◌, suc, drop}
use Rattle.unit_landscape.specs.KeptWorlds.{cause_at}
use Rattle.runs.specs.Turns.{down_by_from}
use Rattle.runs.proofs.lengths.first_down_by.Given as goal

-- none of those that were looked at is down so
abbrev pub invariant-loop-place : goal.invariant-loop-place
invariant-loop-place g l =
    down_by_from l.by (cause_at l.landscape) (suc l.place) (drop l.place l.systems) ≡ down_by_from l.by (cause_at l.landscape) 1 l.systems
