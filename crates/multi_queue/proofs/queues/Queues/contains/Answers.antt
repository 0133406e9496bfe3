use Rattle.std.specs.Prelude.{IsTrue, IsSome}
use Rattle.std.specs.BTreeMap.{get}
use Rattle.std.proofs.Common.{◌↔◌, true, false, Option, sym, ap, subst, ◌∙◌, rules}
use Rattle.plain_queues.specs.declared.queued_unit.QueuedUnit.{QueuedUnit}
use Rattle.plain_queues.specs.Queues.{QueuesOf, unit_of}
use Rattle.multi_queue.specs.Seen.{numbers_cmp}
use Rattle.multi_queue.proofs.SeenLemmas.{unit_of-here, unit_of-gone}
use Rattle.multi_queue.proofs.queues.Queues.contains.Goals as goal

pub returns-in-Some : goal.returns-in-Some
returns-in-Some c =
    let at = c.in-Some.ensures in
    let here = sym (ap (λ (queues : QueuesOf). unit_of c.args.tid queues) c.self.view_is)
    ∙ unit_of-here c.args.tid c.self.inside.counting.units c.self.inside.counting.lanes (get numbers_cmp c.self.inside.places) c.in-Some.field-0 at.unit
    c.self.invariant.placed
    at.names at.stands at.live in
    subst (λ (o : Option QueuedUnit). IsTrue true ↔ IsSome o) (sym here) (search rules)

pub returns-in-None : goal.returns-in-None
returns-in-None c =
    let gone = sym (ap (λ (queues : QueuesOf). unit_of c.args.tid queues) c.self.view_is)
    ∙ unit_of-gone c.args.tid c.self.inside.counting.units c.self.inside.counting.lanes (get numbers_cmp c.self.inside.places) c.self.invariant.placed
    c.in-None.ensures.nowhere in
    subst (λ (o : Option QueuedUnit). IsTrue false ↔ IsSome o) (sym gone) (search rules)
