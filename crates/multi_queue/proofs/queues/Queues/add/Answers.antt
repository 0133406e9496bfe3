use Rattle.std.specs.Prelude.{Result, Ok, Err, OnOk, OnErr}
use Rattle.std.specs.BTreeMap.{get}
use Rattle.std.proofs.Common.{◌≡◌, ◌+◌, List, ℕ, Option, ap, sym, subst, ◌∙◌, slice_get}
use Rattle.ale_base.proofs.OnOkLemmas.{on_ok}
use Rattle.plain_queues.specs.Queues.{QueuesOf, unit_of}
use Rattle.plain_queues.specs.Changes.{added}
use Rattle.multi_queue.specs.declared.entry.Entry.{Entry}
use Rattle.multi_queue.specs.declared.entry.Lane.{Lane}
use Rattle.multi_queue.specs.Counted.{KeepsLanes, AreNewQueues, left_of, new_entry}
use Rattle.multi_queue.specs.Seen.{numbers_cmp, names_cmp, seen, AreNumbersOf}
use Rattle.multi_queue.proofs.LaneLemmas.{grow-keeps, seen-grow}
use Rattle.multi_queue.proofs.AddLemmas.{new-id, new-queues, board-keeps, room-keeps, end-keeps, end-fails, seen-end, seen-fails, at-behind, length-behind}
use Rattle.multi_queue.proofs.queues.Queues.add.Goals as goal

-- what follows from either answer
either : {T E A B P : Type 0} (r : Result T E) → OnOk r A → OnErr r B → (A → P) → (B → P) → P
either (Ok x) a b on-a on-b = on-a a
either (Err e) a b on-a on-b = on-b b

on_err : {T E P Q : Type 0} (r : Result T E) → OnErr r P → (P → Q) → OnErr r Q
on_err (Ok x) here leads = tt
on_err (Err e) here leads = leads here

pub invariant_of-self : goal.invariant_of-self
invariant_of-self c = grow-keeps c.self.invariant c.numbers_in.new.lanes (get names_cmp c.numbers_in.new.names) c.in-Err.ensures.grows c.in-Err.ensures.named

pub returns-in-Err-clause-err : goal.returns-in-Err-clause-err
returns-in-Err-clause-err c = seen-grow c.self.invariant c.numbers_in.new.lanes c.in-Err.ensures.grows ∙ c.self.view_is

pub make_room-requires-clause-new : goal.make_room-requires-clause-new
make_room-requires-clause-new c =
    new-id c.args.tid c.self.inside.counting.units c.self.inside.counting.lanes (get numbers_cmp c.self.inside.places) c.self.invariant.placed
    (ap (λ (queues : QueuesOf). unit_of c.args.tid queues) c.self.view_is ∙ c.requires.new)

pub make_room-requires-clause-kept : goal.make_room-requires-clause-kept
make_room-requires-clause-kept c =
    (grow-keeps c.self.invariant c.numbers_in.new.lanes (get names_cmp c.numbers_in.new.names) c.in-Ok.ensures.grows c.in-Ok.ensures.named).kept

pub invariant_of-self-in-Err-make_room : goal.invariant_of-self-in-Err-make_room
invariant_of-self-in-Err-make_room c =
    let e = c.in-Err-make_room.ensures in
    let it = grow-keeps c.self.invariant c.numbers_in.new.lanes (get names_cmp c.numbers_in.new.names) c.in-Ok.ensures.grows c.in-Ok.ensures.named in
    board-keeps it c.make_room.new.self.units c.make_room.new.self.lanes c.make_room.new.self.board (get numbers_cmp c.make_room.new.places) e.units e.lanes
    e.kept e.placed

pub returns-in-Err-make_room-clause-err : goal.returns-in-Err-make_room-clause-err
returns-in-Err-make_room-clause-err c =
    ap (λ (l : List Entry). seen l c.make_room.new.self.lanes) c.in-Err-make_room.ensures.units
    ∙ ap (λ (l : List Lane). seen c.self.inside.counting.units l) c.in-Err-make_room.ensures.lanes
    ∙ seen-grow c.self.invariant c.numbers_in.new.lanes c.in-Ok.ensures.grows ∙ c.self.view_is

pub enter-requires-clause-last : goal.enter-requires-clause-last
enter-requires-clause-last c =
    let e = c.in-Ok-make_room.ensures in
    let at_p = ap (λ (i : ℕ). slice_get c.make_room.new.self.units i) e.place.0
    ∙ at-behind c.args.tid c.self.inside.counting.units c.make_room.new.self.units e.behind in
    record {
      last = length-behind c.args.tid c.self.inside.counting.units c.make_room.new.self.units e.behind ∙ ap (λ (i : ℕ). i + 1) (sym e.place.0);
      dead = λ u at. let same : new_entry c.args.tid ≡ u = cc (at_p, at) in ap (λ (x : Entry). x.live) (sym same);
    }

pub enter-requires-clause-none : goal.enter-requires-clause-none
enter-requires-clause-none c =
    let e = c.in-Ok-make_room.ensures in
    ap (λ (o : Option Entry). left_of o) (ap (λ (i : ℕ). slice_get c.make_room.new.self.units i) e.place.0
    ∙ at-behind c.args.tid c.self.inside.counting.units c.make_room.new.self.units e.behind)

pub enter-requires-clause-queues : goal.enter-requires-clause-queues
enter-requires-clause-queues c =
    subst (λ (l : List Lane). AreNewQueues c.as_slice.result.now l) (sym c.in-Ok-make_room.ensures.lanes)
    (subst (λ (qs : List ℕ). AreNewQueues qs c.numbers_in.new.lanes) (sym c.as_slice.ensures.value)
    (new-queues c.args.keys.now c.numbers_in.new.lanes (get names_cmp c.numbers_in.new.names) c.in-Ok.numbers.items c.in-Ok.ensures.named
    c.in-Ok.ensures.numbers c.requires.different c.requires.few))

pub invariant_of-self-2 : goal.invariant_of-self-2
invariant_of-self-2 c =
    let e = c.in-Ok-make_room.ensures in
    let room = c.make_room.new.self in
    let after = c.enter.new.self in
    let it = room-keeps (grow-keeps c.self.invariant c.numbers_in.new.lanes (get names_cmp c.numbers_in.new.names) c.in-Ok.ensures.grows c.in-Ok.ensures.named)
    c.args.tid room.units room.lanes room.board (get numbers_cmp c.make_room.new.places) e.lanes e.behind e.kept e.placed in
    let at_p = ap (λ (i : ℕ). slice_get room.units i) e.place.0 ∙ at-behind c.args.tid c.self.inside.counting.units room.units e.behind in
    let last = length-behind c.args.tid c.self.inside.counting.units room.units e.behind ∙ ap (λ (i : ℕ). i + 1) (sym e.place.0) in
    either c.enter.result c.enter.ensures.ok c.enter.ensures.err
    (λ enters. end-keeps it c.args.tid c.in-Ok-make_room.place c.as_slice.result.now after.units after.lanes after.board at_p last e.place.1
    c.enter.ensures.lanes enters c.enter.ensures.kept)
    (λ same. end-fails it after.units after.lanes after.board c.enter.ensures.lanes same c.enter.ensures.kept)

-- the queues have the keys and the stops that they had before the unit had its place
keeps-lanes : (lanes room after : List Lane) → room ≡ lanes → KeepsLanes room after → KeepsLanes lanes after
keeps-lanes lanes room after same keeps = subst (λ (l : List Lane). KeepsLanes l after) same keeps

pub returns-clause-ok : goal.returns-clause-ok
returns-clause-ok c =
    let e = c.in-Ok-make_room.ensures in
    let numbers = subst (λ (qs : List ℕ). AreNumbersOf c.args.keys.now c.numbers_in.new.lanes qs) (sym c.as_slice.ensures.value) c.in-Ok.ensures.numbers in
    on_ok c.enter.result c.enter.ensures.ok (λ enters.
    seen-end c.args.tid c.self.inside.counting.units c.make_room.new.self.units c.enter.new.self.units c.numbers_in.new.lanes
    c.enter.new.self.lanes c.args.keys.now c.as_slice.result.now c.in-Ok-make_room.place e.place.0 e.behind
    (keeps-lanes c.numbers_in.new.lanes c.make_room.new.self.lanes c.enter.new.self.lanes e.lanes c.enter.ensures.lanes) numbers enters
    ∙ ap (λ (queues : QueuesOf). added c.args.tid c.args.keys.now queues) (seen-grow c.self.invariant c.numbers_in.new.lanes c.in-Ok.ensures.grows
    ∙ c.self.view_is))

pub returns-clause-err : goal.returns-clause-err
returns-clause-err c =
    let e = c.in-Ok-make_room.ensures in
    on_err c.enter.result c.enter.ensures.err (λ same.
    seen-fails c.args.tid c.self.inside.counting.units c.make_room.new.self.units c.enter.new.self.units c.numbers_in.new.lanes
    c.enter.new.self.lanes e.behind
    (keeps-lanes c.numbers_in.new.lanes c.make_room.new.self.lanes c.enter.new.self.lanes e.lanes c.enter.ensures.lanes) same
    ∙ seen-grow c.self.invariant c.numbers_in.new.lanes c.in-Ok.ensures.grows ∙ c.self.view_is)
