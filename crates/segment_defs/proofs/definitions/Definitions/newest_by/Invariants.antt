use Rattle.std.proofs.Common.{◌+◌, ◌≡◌, length}
use Rattle.std.specs.Slice.Iter.{iter_rest}
use Rattle.segment_defs.specs.Definitions.{versions_of}
use Rattle.segment_defs.specs.SegmentType.{newest_by}
use Rattle.segment_defs.proofs.NewestLemmas.{newest_or}
use Rattle.segment_defs.proofs.definitions.Definitions.newest_by.Given as goal

-- the newest among the definitions left, or else the newest so far, is the newest among all
abbrev pub invariant-loop-place : goal.invariant-loop-place
invariant-loop-place l =
    let versions = versions_of l.fn.self l.fn.segment in
    let left = iter_rest l.version-iterator in
    (l.place + length left ≡ length versions)
    × (newest_or l.newest l.place (newest_by l.release left) ≡ newest_by l.release versions)
