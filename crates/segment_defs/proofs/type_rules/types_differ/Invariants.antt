use Rattle.std.proofs.Common.{◌↔◌, drop}
use Rattle.std.specs.List.{IsDistinct, flat_map}
use Rattle.ale_base.specs.Text.{is_text}
use Rattle.segment_defs.specs.Definitions.{names_of}
use Rattle.segment_defs.proofs.type_rules.types_differ.Given as goal

abbrev pub invariant-loop-place : goal.invariant-loop-place
invariant-loop-place l =
    IsDistinct is_text (flat_map names_of (drop l.place l.types)) ↔ IsDistinct is_text (flat_map names_of l.types)
