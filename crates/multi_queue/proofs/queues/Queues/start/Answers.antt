use Rattle.std.specs.BTreeMap.{get}
use Rattle.std.proofs.Common.{List, sym, subst}
use Rattle.std.proofs.lemmas.Option.{slice_get_within}
use Rattle.plain_queues.specs.declared.queue_key.QueueKey.{QueueKey}
use Rattle.plain_queues.specs.Queues.{QueuesOf}
use Rattle.plain_queues.specs.Changes.{Starts}
use Rattle.multi_queue.specs.declared.entry.Entry.{Entry}
use Rattle.multi_queue.specs.Seen.{names_cmp, seen}
use Rattle.multi_queue.proofs.StatusLemmas.{lane-there, no-lane}
use Rattle.multi_queue.proofs.LaneLemmas.{seen-start, start-nothing, stop-keeps}
use Rattle.multi_queue.proofs.queues.Queues.start.Goals as goal

pub write_stop-requires-clause-known : goal.write_stop-requires-clause-known
write_stop-requires-clause-known c =
    let there = lane-there c.self.inside.counting.lanes (get names_cmp c.self.inside.names) c.args.key c.in-Some.queue c.self.invariant.named
    c.in-Some.ensures.proper
    (sym c.in-Some.ensures.number) in
    slice_get_within c.self.inside.counting.lanes c.in-Some.queue there.0 there.1

pub invariant_of-self : goal.invariant_of-self
invariant_of-self c =
    let there = lane-there c.self.inside.counting.lanes (get names_cmp c.self.inside.names) c.args.key c.in-Some.queue c.self.invariant.named
    c.in-Some.ensures.proper
    (sym c.in-Some.ensures.number) in
    stop-keeps c.self.invariant c.in-Some.queue _ there.0 c.write_stop.new.self.units c.write_stop.new.self.lanes c.write_stop.new.self.board there.1
    c.write_stop.ensures.units c.write_stop.ensures.lane c.write_stop.ensures.kept

pub returns-in-Some : goal.returns-in-Some
returns-in-Some c =
    let there = lane-there c.self.inside.counting.lanes (get names_cmp c.self.inside.names) c.args.key c.in-Some.queue c.self.invariant.named
    c.in-Some.ensures.proper
    (sym c.in-Some.ensures.number) in
    let starts = seen-start c.self.inside.counting.units c.self.inside.counting.lanes c.write_stop.new.self.lanes
    (get names_cmp c.self.inside.names) c.in-Some.queue there.0
    c.self.invariant.named there.1 c.write_stop.ensures.lane in
    subst (λ (l : List Entry). Starts c.args.key c.args.self.now (seen l c.write_stop.new.self.lanes)) (sym c.write_stop.ensures.units)
    (subst (λ (queues : QueuesOf). Starts c.args.key queues (seen c.self.inside.counting.units c.write_stop.new.self.lanes)) c.self.view_is
    (subst (λ (key : QueueKey). Starts key (seen c.self.inside.counting.units c.self.inside.counting.lanes)
    (seen c.self.inside.counting.units c.write_stop.new.self.lanes)) there.2 starts))

pub returns-in-None : goal.returns-in-None
returns-in-None c =
    subst (λ (queues : QueuesOf). Starts c.args.key queues queues) c.self.view_is
    (start-nothing c.args.key c.self.inside.counting.units c.self.inside.counting.lanes
    (no-lane c.self.inside.counting.lanes (get names_cmp c.self.inside.names) c.args.key c.self.invariant.named (sym c.in-None.ensures.number)))
