use Rattle.std.specs.BTreeMap.{values}
use Rattle.std.specs.List.{filter_map, AllByRecursion}
use Rattle.std.proofs.Common.{◌≡◌, ◌<◌, ◌++◌, length}
use Rattle.multi_queue.specs.Listed.{line_at}
use Rattle.multi_queue.proofs.counting.Counting.lines.Given as goal

-- the lines so far, and those of the numbers that are left, each of which is that of a queue
abbrev pub invariant-loop-queue : goal.invariant-loop-queue
invariant-loop-queue l = record {
  lines : l.lines ++ filter_map (line_at l.self.units l.self.lanes l.self.board.heads) l.queue-iterator
      ≡ filter_map (line_at l.self.units l.self.lanes l.self.board.heads) (values l.names);
  known : AllByRecursion (λ q. q < length l.self.lanes) l.queue-iterator;
}
