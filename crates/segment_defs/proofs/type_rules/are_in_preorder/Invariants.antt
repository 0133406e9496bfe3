use Rattle.std.proofs.Common.{[], take}
use Rattle.segment_defs.specs.IdocType.{IsPreorder}
use Rattle.segment_defs.proofs.type_rules.are_in_preorder.Given as goal

abbrev pub invariant-loop-place : goal.invariant-loop-place
invariant-loop-place l = IsPreorder 0 [] (take l.place l.entries)
