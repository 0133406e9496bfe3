use Rattle.std.specs.BTreeMap.{get}
use Rattle.std.proofs.Common.{List, refl, sym, ap, ◌∙◌}
use Rattle.ale_base.specs.Tid.{TidOf}
use Rattle.plain_queues.specs.declared.queued_unit.QueuedUnit.{QueuedUnit}
use Rattle.plain_queues.specs.Queues.{QueuesOf}
use Rattle.plain_queues.specs.Changes.{changed}
use Rattle.multi_queue.specs.declared.entry.Entry.{Entry}
use Rattle.multi_queue.specs.declared.entry.Lane.{Lane}
use Rattle.multi_queue.specs.Seen.{numbers_cmp, names_cmp, seen}
use Rattle.multi_queue.proofs.SeenLemmas.{seen-flag, seen-nowhere, tid-at}
use Rattle.multi_queue.proofs.FlagLemmas.{flag-keeps}
use Rattle.multi_queue.proofs.queues.Queues.write_mark.Goals as goal

pub invariant_of-self : goal.invariant_of-self
invariant_of-self c =
    let at = c.in-Some.ensures in
    let v : Entry = record at.unit { mark = c.args.mark } in
    let after = c.set_mark.new.self in
    flag-keeps c.self.inside.counting.units c.self.inside.counting.lanes c.self.inside.counting.board after.units after.lanes after.board
    (get numbers_cmp c.self.inside.places) (get names_cmp c.self.inside.names) c.in-Some.place at.unit v at.stands
    (record { tid = refl; queues = refl; live = refl })
    (λ busy. c.self.invariant.claims c.in-Some.place at.unit at.stands busy)
    c.self.invariant (c.set_mark.ensures.unit at.unit at.stands) c.set_mark.ensures.lanes c.set_mark.ensures.kept

pub returns-in-Some : goal.returns-in-Some
returns-in-Some c =
    let at = c.in-Some.ensures in
    let v : Entry = record at.unit { mark = c.args.mark } in
    let change = λ (unit : QueuedUnit). record unit { mark = c.args.mark } in
    ap (λ (l : List Lane). seen c.set_mark.new.self.units l) c.set_mark.ensures.lanes
    ∙ ap (λ (l : List Entry). seen l c.self.inside.counting.lanes) (c.set_mark.ensures.unit at.unit at.stands)
    ∙ seen-flag change c.self.inside.counting.units c.self.inside.counting.lanes (get numbers_cmp c.self.inside.places) c.in-Some.place at.unit v
    c.self.invariant.placed
    at.stands at.live
    (record { tid = refl; queues = refl; live = refl }) refl
    ∙ ap (λ (t : TidOf). changed change t (seen c.self.inside.counting.units c.self.inside.counting.lanes))
    (tid-at c.args.tid c.self.inside.counting.units (get numbers_cmp c.self.inside.places) c.in-Some.place c.self.invariant.placed at)
    ∙ ap (λ (queues : QueuesOf). changed change c.args.tid queues) c.self.view_is

pub returns-in-None : goal.returns-in-None
returns-in-None c =
    let change = λ (unit : QueuedUnit). record unit { mark = c.args.mark } in
    sym (ap (λ (queues : QueuesOf). changed change c.args.tid queues) (sym c.self.view_is)
    ∙ seen-nowhere change c.args.tid c.self.inside.counting.units c.self.inside.counting.lanes (get numbers_cmp c.self.inside.places) c.self.invariant.placed
    c.in-None.ensures
    ∙ c.self.view_is)
