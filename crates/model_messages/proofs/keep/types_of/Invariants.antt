use Rattle.std.proofs.Common.{◌≡◌, map, take}
use Rattle.segment_defs.specs.declared.idoc_type.TypePlace.{TypePlace}
use Rattle.model_messages.proofs.keep.types_of.Given as goal

abbrev pub invariant-loop-entry : goal.invariant-loop-entry
invariant-loop-entry l = l.types ≡ map (λ (entry : TypePlace). entry.segment) (take l.entry-index l.entries)
