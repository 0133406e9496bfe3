use Rattle.std.proofs.Common.{◌≡◌, drop, fold}
use Rattle.landscape.specs.Counted.{noted, sums_of}
use Rattle.landscape.proofs.counts.Sums.of_log.Given as goal

abbrev pub invariant-loop-next : goal.invariant-loop-next
invariant-loop-next l = fold noted l.sums (drop l.next-index l.log) ≡ sums_of l.log
