use Rattle.std.proofs.Common.{◌≡◌, replicate, []}
use Rattle.filter_objects.proofs.needs.empty_lists.Given as goal

abbrev pub invariant-loop : goal.invariant-loop
invariant-loop l = l.lists ≡ replicate l.counter []
