use Rattle.std.proofs.Common.{◌↔◌, map, drop}
use Rattle.std.specs.List.{IsDistinct}
use Rattle.ale_base.specs.Text.{is_text}
use Rattle.segment_defs.proofs.rules.fields_differ.Given as goal

abbrev pub invariant-loop-place : goal.invariant-loop-place
invariant-loop-place l =
    IsDistinct is_text (map (λ field. field.name) (drop l.place l.fields)) ↔ IsDistinct is_text (map (λ field. field.name) l.fields)
