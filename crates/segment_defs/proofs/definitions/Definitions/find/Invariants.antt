use Rattle.std.proofs.Common.{ℕ, ◌+◌, ◌≡◌, length}
use Rattle.std.specs.List.{AllByRecursion}
use Rattle.std.specs.Option.{option_map}
use Rattle.std.specs.Slice.Iter.{iter_rest}
use Rattle.segment_defs.specs.SegmentType.{IsSegmentType}
use Rattle.segment_defs.specs.Definitions.{found_in}
use Rattle.segment_defs.proofs.definitions.Definitions.find.Given as goal

-- the types left keep their rules, and what is found among them, that much further, is what is found in all
abbrev pub invariant-loop-place : goal.invariant-loop-place
invariant-loop-place l =
    let left = iter_rest l.segment-iterator in
    AllByRecursion IsSegmentType left
    × (l.place + length left ≡ length l.self.types)
    × (option_map (λ (found : ℕ × ℕ). (l.place + found.0, found.1)) (found_in l.name left) ≡ found_in l.name l.self.types)
