use Rattle.std.specs.BTreeMap.{values}
use Rattle.std.specs.List.{filter_map, AllByRecursion}
use Rattle.std.proofs.Common.{◌≡◌, ◌<◌, ◌++◌, List, length, sym, ap, subst, ◌∙◌}
use Rattle.plain_queues.specs.declared.queue_count.QueueCount.{QueueCount}
use Rattle.multi_queue.specs.Listed.{line_at}
use Rattle.multi_queue.proofs.LinesLemmas.{known-values}
use Rattle.multi_queue.proofs.counting.Counting.lines.Goals as goal

pub loop-queue-init : goal.loop-queue-init
loop-queue-init c =
    let gives = line_at c.args.self.now.units c.args.self.now.lanes c.args.self.now.board.heads in
    let rest : c.into_iter-queue-iterator.result ≡ values c.args.names.now = c.into_iter-queue-iterator.ensures.into_iter_gives
    ∙ c.values-queue-items.ensures.rest in
    record {
      lines = ap (λ (l : List QueueCount). l ++ filter_map gives c.into_iter-queue-iterator.result) c.new-lines.ensures ∙ ap (filter_map gives) rest;
      known = subst (AllByRecursion (λ q. q < length c.args.self.now.lanes)) (sym rest)
          (known-values c.args.self.now.lanes c.args.names.now c.requires.named c.values-queue-items.ensures.ordered);
    }
