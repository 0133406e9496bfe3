use Rattle.std.specs.BTreeMap.{get}
use Rattle.std.specs.Option.{option_map}
use Rattle.std.proofs.Common.{Some, sym, ap, ◌∙◌}
use Rattle.plain_queues.specs.declared.queue_key.QueueKey.{QueueKey}
use Rattle.multi_queue.specs.declared.entry.Lane.{Lane}
use Rattle.multi_queue.specs.Seen.{names_cmp}
use Rattle.multi_queue.proofs.StatusLemmas.{lane-there}
use Rattle.multi_queue.proofs.numbering.number_in.Goals as goal

pub returns-in-Some-clause-number : goal.returns-in-Some-clause-number
returns-in-Some-clause-number c =
    let there = lane-there c.args.lanes.now (get names_cmp c.args.names.now) c.args.key.now c.in-Some.queue c.requires.named c.in-Some.ensures.proper
    (sym c.in-Some.ensures.number) in
    ap (option_map (λ (lane : Lane). lane.key)) there.1 ∙ ap (λ (key : QueueKey). Some key) there.2
