use Rattle.std.proofs.Common.{arith}
use Rattle.multi_queue.proofs.CountedLemmas.{has-ends}
use Rattle.multi_queue.proofs.counting.Counting.part_one.Goals as goal

pub lower-requires-clause-known : goal.lower-requires-clause-known
lower-requires-clause-known g c = let it = c.requires.parting in c.requires.kept.counted.known c.args.place it.unit c.args.queue it.stands
    (has-ends it.unit c.args.queue it.ends)

pub take_back-requires-clause-known : goal.take_back-requires-clause-known
take_back-requires-clause-known g c = let it = c.requires.parting in c.requires.kept.counted.known c.args.place it.unit c.args.queue it.stands
    (has-ends it.unit c.args.queue it.ends)

pub raise-requires-clause-known : goal.raise-requires-clause-known
raise-requires-clause-known g c = let it = c.requires.parting in
    omega (
      arith,
      c.requires.kept.counted.known c.args.place it.unit c.args.queue it.stands
          (has-ends it.unit c.args.queue it.ends),
      c.take_back.ensures.lanes.count,
    )
