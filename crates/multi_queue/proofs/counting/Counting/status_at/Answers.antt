use Rattle.std.proofs.Common.{sym, arith}
use Rattle.multi_queue.proofs.ReasonLemmas.{headed-all}
use Rattle.multi_queue.proofs.counting.Counting.status_at.Goals as goal

-- the head of a queue is one of the units, and has its count
pub index-requires : goal.index-requires
index-requires c = headed-all c.requires.kept c.args.queue c.in-Some.place c.index-lane.result.now c.index-lane.ensures (sym c.in-Some.ensures)

pub index-requires-in-Some : goal.index-requires-in-Some
index-requires-in-Some c =
    let within = headed-all c.requires.kept c.args.queue c.in-Some.place c.index-lane.result.now c.index-lane.ensures (sym c.in-Some.ensures) in
    omega (arith, within, c.requires.kept.counted.all)
