use Rattle.std.proofs.Common.{◌+◌, ◌≡◌, length}
use Rattle.std.specs.Option.{option_map}
use Rattle.std.specs.Slice.Iter.{iter_rest}
use Rattle.segment_defs.specs.Definitions.{version_named}
use Rattle.segment_defs.proofs.segment_type.SegmentType.named.Given as goal

-- what is found among the definitions left, that much further, is what is found among all
abbrev pub invariant-loop-place : goal.invariant-loop-place
invariant-loop-place l =
    let left = iter_rest l.version-iterator in
    (l.place + length left ≡ length l.self.versions)
    × (option_map (λ place. l.place + place) (version_named l.name left) ≡ version_named l.name l.self.versions)
