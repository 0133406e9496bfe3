use Rattle.std.proofs.Common.{◌≡◌, drop}
use Rattle.filter_objects.specs.steps.Members.{set_of, followed}
use Rattle.filter_objects.proofs.member.+copied_members.Given as goal

abbrev pub invariant-loop-member : goal.invariant-loop-member
invariant-loop-member l = followed (set_of l.copy.items) (set_of (drop l.member-index l.members)) ≡ set_of l.members
