use Rattle.std.specs.BTreeMap.{get}
use Rattle.std.specs.Option.{option_and_then}
use Rattle.std.proofs.Common.{◌≡◌, Option, sym, ap, ◌∙◌}
use Rattle.plain_queues.specs.declared.queued_unit.QueuedUnit.{QueuedUnit}
use Rattle.plain_queues.specs.Queues.{QueuesOf, unit_of}
use Rattle.multi_queue.specs.declared.entry.Entry.{Entry}
use Rattle.multi_queue.specs.Seen.{numbers_cmp}
use Rattle.multi_queue.proofs.SeenLemmas.{unit_of-here, unit_of-gone}
use Rattle.multi_queue.proofs.queues.Queues.mark_on.Goals as goal

pub returns-in-Some : goal.returns-in-Some
returns-in-Some c =
    let at = c.in-Some.ensures in
    let same : at.unit ≡ c.index.result.now = cc (at.stands, c.index.ensures) in
    let mark_is = λ (o : Option QueuedUnit). option_and_then (λ (unit : QueuedUnit). unit.mark) o in
    sym (ap (λ (queues : QueuesOf). mark_is (unit_of c.args.tid queues)) (sym c.self.view_is)
    ∙ ap mark_is (unit_of-here c.args.tid c.self.inside.counting.units c.self.inside.counting.lanes (get numbers_cmp c.self.inside.places) c.in-Some.place
    at.unit
    c.self.invariant.placed at.names at.stands at.live)
    ∙ ap (λ (u : Entry). u.mark) same)

pub returns-in-None : goal.returns-in-None
returns-in-None c =
    let mark_is = λ (o : Option QueuedUnit). option_and_then (λ (unit : QueuedUnit). unit.mark) o in
    sym (ap (λ (queues : QueuesOf). mark_is (unit_of c.args.tid queues)) (sym c.self.view_is)
    ∙ ap mark_is (unit_of-gone c.args.tid c.self.inside.counting.units c.self.inside.counting.lanes
    (get numbers_cmp c.self.inside.places) c.self.invariant.placed
    c.in-None.ensures.nowhere))
