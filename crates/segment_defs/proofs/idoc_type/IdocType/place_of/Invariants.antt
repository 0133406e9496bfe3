use Rattle.std.proofs.Common.{◌+◌, ◌<◌, ◌≡◌, length, ◌^◌}
use Rattle.std.specs.Slice.Iter.{iter_rest}
use Rattle.segment_defs.specs.IdocType.{place_in}
use Rattle.segment_defs.proofs.idoc_type.IdocType.place_of.Given as goal

-- what is found among the entries left, that much further, is what is found in all
abbrev pub invariant-loop-place : goal.invariant-loop-place
invariant-loop-place l =
    let left = iter_rest l.entry-iterator in
    (l.place + length left < 2 ^ 64)
    × (l.place + length left ≡ length l.self.segments)
    × (l.place + place_in left l.segment ≡ place_in l.self.segments l.segment)
