use Rattle.std.specs.Prelude.{Result, Ok, Err, OnErr}
use Rattle.std.specs.BTreeMap.{get}
use Rattle.std.proofs.Common.{List, sym, subst, ◌∙◌}
use Rattle.std.proofs.lemmas.Option.{slice_get_within}
use Rattle.plain_queues.specs.declared.queue_key.QueueKey.{QueueKey}
use Rattle.plain_queues.specs.Queues.{QueuesOf}
use Rattle.plain_queues.specs.Changes.{Stops}
use Rattle.multi_queue.specs.declared.entry.Entry.{Entry}
use Rattle.multi_queue.specs.Seen.{names_cmp, seen}
use Rattle.multi_queue.proofs.LaneLemmas.{seen-stop, stop-keeps, grow-keeps, seen-grow, lane-of_key}
use Rattle.multi_queue.proofs.queues.Queues.stop.Goals as goal

pub invariant_of-self : goal.invariant_of-self
invariant_of-self c = grow-keeps c.self.invariant c.number_in.new.lanes (get names_cmp c.number_in.new.names) c.in_err-queue.ensures.grows
    c.in_err-queue.ensures.named

pub returns-in_err-queue-clause-err : goal.returns-in_err-queue-clause-err
returns-in_err-queue-clause-err c = on-err c.from_residual.result (seen-grow c.self.invariant c.number_in.new.lanes c.in_err-queue.ensures.grows
    ∙ c.self.view_is)
  where
    on-err : {T E P : Type 0} (r : Result T E) → P → OnErr r P
    on-err (Ok x) holds = tt
    on-err (Err e) holds = holds

pub write_stop-requires-clause-kept : goal.write_stop-requires-clause-kept
write_stop-requires-clause-kept c = (grow-keeps c.self.invariant c.number_in.new.lanes (get names_cmp c.number_in.new.names) c.in_ok-queue.ensures.grows
    c.in_ok-queue.ensures.named).kept

pub write_stop-requires-clause-known : goal.write_stop-requires-clause-known
write_stop-requires-clause-known c =
    let at = lane-of_key c.number_in.new.lanes c.in_ok-queue.queue c.args.key c.in_ok-queue.ensures.number in
    slice_get_within c.number_in.new.lanes c.in_ok-queue.queue at.0 at.1

pub invariant_of-self-2 : goal.invariant_of-self-2
invariant_of-self-2 c =
    let at = lane-of_key c.number_in.new.lanes c.in_ok-queue.queue c.args.key c.in_ok-queue.ensures.number in
    stop-keeps (grow-keeps c.self.invariant c.number_in.new.lanes (get names_cmp c.number_in.new.names) c.in_ok-queue.ensures.grows c.in_ok-queue.ensures.named)
    c.in_ok-queue.queue _ at.0
    c.write_stop.new.self.units c.write_stop.new.self.lanes c.write_stop.new.self.board at.1 c.write_stop.ensures.units c.write_stop.ensures.lane
    c.write_stop.ensures.kept

pub returns-clause-ok : goal.returns-clause-ok
returns-clause-ok c =
    let at = lane-of_key c.number_in.new.lanes c.in_ok-queue.queue c.args.key c.in_ok-queue.ensures.number in
    let stops = seen-stop c.self.inside.counting.units c.number_in.new.lanes c.write_stop.new.self.lanes
    (get names_cmp c.number_in.new.names) c.in_ok-queue.queue at.0
    c.in_ok-queue.ensures.named at.1 c.write_stop.ensures.lane in
    subst (λ (l : List Entry). Stops c.args.key c.args.self.now (seen l c.write_stop.new.self.lanes)) (sym c.write_stop.ensures.units)
    (subst (λ (queues : QueuesOf). Stops c.args.key queues (seen c.self.inside.counting.units c.write_stop.new.self.lanes))
    (seen-grow c.self.invariant c.number_in.new.lanes c.in_ok-queue.ensures.grows ∙ c.self.view_is)
    (subst (λ (key : QueueKey). Stops key (seen c.self.inside.counting.units c.number_in.new.lanes)
    (seen c.self.inside.counting.units c.write_stop.new.self.lanes)) at.2 stops))
