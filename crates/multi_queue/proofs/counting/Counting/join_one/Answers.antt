use Rattle.std.proofs.Common.{arith}
use Rattle.multi_queue.proofs.counting.Counting.join_one.Goals as goal

pub raise-requires-clause-known : goal.raise-requires-clause-known
raise-requires-clause-known g c = omega (arith, c.requires.known, c.put_in-joined.ensures.lanes.count)
