use Rattle.std.proofs.Common.{◌≡◌, None, take, fold}
use Rattle.unit_core.specs.Filters.{mark_after}
use Rattle.unit_core.proofs.marks.mark_of.Given as goal

abbrev pub invariant-loop-record : goal.invariant-loop-record
invariant-loop-record l = l.mark ≡ fold (mark_after l.way l.tid) None (take l.record-index l.log)
