use Rattle.std.proofs.Common.{◌≡◌, ◌++◌}
use Rattle.outbound_build.specs.Statuses.{carried_in}
use Rattle.outbound_build.proofs.adding.push_carried.Given as goal

abbrev pub invariant-loop-one : goal.invariant-loop-one
invariant-loop-one l = l.carried ≡ l.fn.carried ++ carried_in l.yielded
