use Rattle.std.specs.Prelude.{not, ◌&&◌}
use Rattle.std.proofs.Common.{ap, ◌∙◌, List, rules}
use Rattle.std.proofs.lemmas.Fn.{filter_same}
use Rattle.plain_queues.specs.declared.queue_key.QueueKey.{QueueKey}
use Rattle.plain_queues.specs.Keys.{is_key, has_key}
use Rattle.plain_queues.specs.Queues.{QueuesOf, is_stopped}
use Rattle.plain_queues.proofs.OfferedLemmas.{has_key-without}
use Rattle.plain_queues.proofs.queues.Queues.start.Goals as goal

pub returns : goal.returns
returns c = record {
  units = ap (λ (queues : QueuesOf). queues.units) c.self.view_is;
  stops = λ other. ap (λ (stops : List QueueKey). has_key other stops) (filter_same _ _ _ (λ x b f' k. search rules) _ _ c.retain.ensures)
      ∙ has_key-without c.args.key other c.self.inside.stops
      ∙ ap (λ (queues : QueuesOf). not (is_key c.args.key other) && is_stopped other queues) c.self.view_is;
}
