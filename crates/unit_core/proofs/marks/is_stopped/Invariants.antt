use Rattle.std.proofs.Common.{◌≡◌, false, take, fold}
use Rattle.unit_core.specs.Filters.{stopped_after}
use Rattle.unit_core.proofs.marks.is_stopped.Given as goal

abbrev pub invariant-loop-record : goal.invariant-loop-record
invariant-loop-record l = l.stopped ≡ fold (stopped_after l.way l.destination l.name) false (take l.record-index l.log)
