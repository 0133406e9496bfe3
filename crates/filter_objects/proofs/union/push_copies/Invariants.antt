use Rattle.std.proofs.Common.{◌≡◌, drop}
use Rattle.filter_objects.specs.steps.Members.{set_of, followed}
use Rattle.filter_objects.proofs.union.push_copies.Given as goal

abbrev pub invariant-loop-member : goal.invariant-loop-member
invariant-loop-member l = followed (set_of l.into.items) (set_of (drop l.member-index l.members)) ≡ followed (set_of l.fn.into.items) (set_of l.members)
