use Rattle.std.specs.BTreeMap.{values}
use Rattle.std.specs.List.{filter_map}
use Rattle.std.proofs.Common.{◌≡◌, List, sym, subst}
use Rattle.std.proofs.lemmas.Result.{IfOk-weaker}
use Rattle.plain_queues.specs.declared.queue_count.QueueCount.{QueueCount}
use Rattle.plain_queues.specs.Queues.{QueuesOf}
use Rattle.plain_queues.specs.Lines.{AreLinesOf}
use Rattle.multi_queue.specs.Listed.{line_at}
use Rattle.multi_queue.specs.Seen.{seen}
use Rattle.multi_queue.proofs.LinesLemmas.{lines-are}
use Rattle.multi_queue.proofs.queues.Queues.lines.Goals as goal

pub returns : goal.returns
returns c =
    IfOk-weaker c.lines.result
    (λ (lines : List QueueCount). lines ≡ filter_map (line_at c.self.inside.counting.units c.self.inside.counting.lanes c.self.inside.counting.board.heads)
    (values c.self.inside.names))
    (AreLinesOf c.args.self.now) (λ lines are.
    subst (λ (queues : QueuesOf). AreLinesOf queues lines) c.self.view_is
    (subst (AreLinesOf (seen c.self.inside.counting.units c.self.inside.counting.lanes)) (sym are)
    (lines-are c.self.inside.names c.self.invariant c.lines.ensures.ordered)))
    c.lines.ensures.lines
