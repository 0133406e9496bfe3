use Rattle.std.proofs.Common.{AllPairs, take}
use Rattle.segment_defs.specs.SegmentType.{Continues}
use Rattle.segment_defs.proofs.rules.continue_each_other.Given as goal

abbrev pub invariant-loop-place : goal.invariant-loop-place
invariant-loop-place l = AllPairs Continues (take l.place l.versions)
