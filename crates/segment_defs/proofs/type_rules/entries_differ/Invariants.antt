use Rattle.std.proofs.Common.{◌↔◌, nat_eq, map, drop}
use Rattle.std.specs.List.{IsDistinct}
use Rattle.segment_defs.proofs.type_rules.entries_differ.Given as goal

abbrev pub invariant-loop-place : goal.invariant-loop-place
invariant-loop-place l =
    IsDistinct nat_eq (map (λ entry. entry.segment) (drop l.place l.entries)) ↔ IsDistinct nat_eq (map (λ entry. entry.segment) l.entries)
