use Rattle.std.proofs.Common.{◌↔◌, map, drop}
use Rattle.std.specs.List.{IsDistinct}
use Rattle.ale_base.specs.Text.{is_text}
use Rattle.segment_defs.proofs.type_rules.versions_differ.Given as goal

abbrev pub invariant-loop-place : goal.invariant-loop-place
invariant-loop-place l =
    IsDistinct is_text (map (λ version. version.name) (drop l.place l.versions)) ↔ IsDistinct is_text (map (λ version. version.name) l.versions)
