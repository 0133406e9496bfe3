use Rattle.std.specs.Prelude.{IsNone}
use Rattle.std.specs.Option.{option_map}
use Rattle.std.specs.BTreeMap.{get}
use Rattle.std.proofs.Common.{◌≡◌, ◌↔◌, [], ap, sym, ◌∙◌, Some, None, subst, refl, Option}
use Rattle.std.proofs.lemmas.Option.{slice_get_within}
use Rattle.plain_queues.specs.declared.queue_key.QueueKey.{QueueKey}
use Rattle.plain_queues.specs.declared.queued_unit.QueuedUnit.{QueuedUnit}
use Rattle.plain_queues.specs.declared.queue_status.QueueStatus.{QueueStatus}
use Rattle.plain_queues.specs.Queues.{QueuesOf, head_of, in_queue}
use Rattle.plain_queues.specs.Status.{status_of, status_by_head}
use Rattle.plain_queues.proofs.OfferedLemmas.{status-there, status-empty}
use Rattle.multi_queue.specs.declared.entry.Lane.{Lane}
use Rattle.multi_queue.specs.Seen.{names_cmp, seen, status_of_lane}
use Rattle.multi_queue.proofs.StatusLemmas.{lane-there, no-lane, no-head, status-lane}
use Rattle.multi_queue.proofs.queues.Queues.status.Goals as goal

-- a queue has a status where it has a head
none-of : (key : QueueKey) (queues : QueuesOf) → IsNone (status_of key queues) ↔ (in_queue key queues ≡ [])
none-of key queues = by (head_of key queues) refl
  where
    by : (found : Option QueuedUnit) → head_of key queues ≡ found → IsNone (option_map (status_by_head key queues) found) ↔ (in_queue key queues ≡ [])
    by None found = status-empty key queues found
    by (Some head) found = status-there key queues head (status_by_head key queues head) found

pub status_at-requires-clause-within : goal.status_at-requires-clause-within
status_at-requires-clause-within c =
    let there = lane-there c.self.inside.counting.lanes (get names_cmp c.self.inside.names) c.args.key c.in-Some.queue c.self.invariant.named
    c.in-Some.ensures.proper
    (sym c.in-Some.ensures.number) in
    slice_get_within c.self.inside.counting.lanes c.in-Some.queue there.0 there.1

pub returns-in-Some-clause-status : goal.returns-in-Some-clause-status
returns-in-Some-clause-status c =
    let there = lane-there c.self.inside.counting.lanes (get names_cmp c.self.inside.names) c.args.key c.in-Some.queue c.self.invariant.named
    c.in-Some.ensures.proper
    (sym c.in-Some.ensures.number) in
    c.status_at.ensures ∙ ap (λ (o : Option Lane).
    status_of_lane c.self.inside.counting.units c.self.inside.counting.lanes c.self.inside.counting.board.heads o) there.1
    ∙ sym (status-lane c.self.invariant c.in-Some.queue there.0 there.1)
    ∙ ap (λ (key : QueueKey). status_of key (seen c.self.inside.counting.units c.self.inside.counting.lanes)) there.2
    ∙ ap (λ (queues : QueuesOf). status_of c.args.key queues) c.self.view_is

pub returns-in-Some-clause-none : goal.returns-in-Some-clause-none
returns-in-Some-clause-none c = subst (λ (o : Option QueueStatus). IsNone o ↔ (in_queue c.args.key c.args.self.now ≡ []))
    (sym (returns-in-Some-clause-status c)) (none-of c.args.key c.args.self.now)

pub returns-in-None-clause-status : goal.returns-in-None-clause-status
returns-in-None-clause-status c =
    sym (ap (λ (o : Option QueuedUnit). option_map (status_by_head c.args.key c.args.self.now) o) (
    ap (λ (queues : QueuesOf). head_of c.args.key queues) (sym c.self.view_is)
    ∙ no-head c.self.inside.counting.units c.self.inside.counting.lanes c.args.key
    (no-lane c.self.inside.counting.lanes (get names_cmp c.self.inside.names) c.args.key c.self.invariant.named (sym c.in-None.ensures.number))))

pub returns-in-None-clause-none : goal.returns-in-None-clause-none
returns-in-None-clause-none c = subst (λ (o : Option QueueStatus). IsNone o ↔ (in_queue c.args.key c.args.self.now ≡ []))
    (sym (returns-in-None-clause-status c)) (none-of c.args.key c.args.self.now)
