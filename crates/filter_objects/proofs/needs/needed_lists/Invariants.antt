use Rattle.std.proofs.Common.{take}
use Rattle.filter_objects.specs.steps.Needs.{AreBelow}
use Rattle.filter_objects.proofs.needs.needed_lists.Given as goal

abbrev pub invariant-loop-entry : goal.invariant-loop-entry
invariant-loop-entry l = AreBelow l.ty.segments l.types (take l.entry-index l.entries) l.lists
