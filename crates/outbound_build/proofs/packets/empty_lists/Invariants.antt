use Rattle.std.proofs.Common.{◌≡◌, replicate, []}
use Rattle.outbound_build.proofs.packets.empty_lists.Given as goal

abbrev pub invariant-loop : goal.invariant-loop
invariant-loop l = l.lists ≡ replicate l.counter []
