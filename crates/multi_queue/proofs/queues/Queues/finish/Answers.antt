use Rattle.std.specs.BTreeMap.{get}
use Rattle.std.specs.Option.{is_none, option_and_then}
use Rattle.std.proofs.Common.{◌≡◌, ◌≤◌, ℕ, List, Option, Some, None, false, sym, ap, subst, ◌∙◌, arith}
use Rattle.ale_base.specs.Tid.{TidOf}
use Rattle.plain_queues.specs.declared.queued_unit.QueuedUnit.{QueuedUnit}
use Rattle.plain_queues.specs.Queues.{QueuesOf, unit_of, claim_of}
use Rattle.plain_queues.specs.Changes.{finished, most_looks}
use Rattle.multi_queue.specs.declared.board.Board.{Board}
use Rattle.multi_queue.specs.declared.entry.Entry.{Entry}
use Rattle.multi_queue.specs.declared.entry.Lane.{Lane}
use Rattle.multi_queue.specs.Counted.{HeadsAll, AreKept, KeepsLanes, IsGoneAt, cost_at}
use Rattle.multi_queue.specs.Seen.{numbers_cmp, seen, IsQueues, IsAt}
use Rattle.multi_queue.proofs.SeenLemmas.{tid-at, unit_of-gone}
use Rattle.multi_queue.proofs.FinishLemmas.{held-claimed, seen-finished, finish-keeps, finish-looks}
use Rattle.multi_queue.proofs.queues.Queues.finish.Goals as goal

-- the unit of a claim that is held is live, claimed, and heads its queues
record Held (p : ℕ) (units : List Entry) (u : Entry) : Type 0 where
  claimed : is_none u.claim ≡ false
  first : HeadsAll p units

held-at : {units : List Entry} {lanes : List Lane} {board : Board} {places : ℕ × ℕ → Option ℕ} {names : ℕ × List ℕ → Option ℕ}
    → IsQueues units lanes board places names → (tid : TidOf) (number p : ℕ) (at : IsAt tid units places p) (queues : QueuesOf) →
    seen units lanes ≡ queues → claim_of tid queues ≡ Some number
    → Held p units at.unit
held-at it tid number p at queues view held =
    let busy = held-claimed it tid number p at.unit (ap (λ (q : QueuesOf). claim_of tid q) view ∙ held) at.names at.stands at.live in
    record { claimed = busy; first = (it.claims p at.unit at.stands busy).1 }

-- what is kept after the unit was taken away
keeps-all : {units : List Entry} {lanes : List Lane} {board : Board} {places : ℕ × ℕ → Option ℕ} {names : ℕ × List ℕ → Option ℕ}
    → IsQueues units lanes board places names → (tid : TidOf) (p : ℕ) (at : IsAt tid units places p) → Held p units at.unit
    → (units2 : List Entry) (lanes2 : List Lane) (board2 : Board) → IsGoneAt p units units2 → KeepsLanes lanes lanes2 → AreKept None units2 lanes2 board2
    → IsQueues units2 lanes2 board2 places names
keeps-all {units} {places = places} {names = names} it tid p at held units2 lanes2 board2 goes keeps kept =
    let e = goes.gone_at at.unit at.stands in
    subst (λ (l : List Entry). IsQueues l lanes2 board2 places names) (sym e)
    (finish-keeps it p at.unit at.stands at.live held.first lanes2 keeps board2 (subst (λ (l : List Entry). AreKept None l lanes2 board2) e kept))

sees-all : {units : List Entry} {lanes : List Lane} {board : Board} {places : ℕ × ℕ → Option ℕ} {names : ℕ × List ℕ → Option ℕ}
    → IsQueues units lanes board places names → (tid : TidOf) (p : ℕ) (at : IsAt tid units places p) → Held p units at.unit
    → (units2 : List Entry) (lanes2 : List Lane) → IsGoneAt p units units2 → KeepsLanes lanes lanes2 → seen units2 lanes2 ≡ finished tid (seen units lanes)
sees-all {units} {lanes} {places = places} it tid p at held units2 lanes2 goes keeps =
    ap (λ (l : List Entry). seen l lanes2) (goes.gone_at at.unit at.stands)
    ∙ seen-finished it p at.unit at.stands at.live held.first lanes2 keeps
    ∙ ap (λ (t : TidOf). finished t (seen units lanes)) (tid-at tid units places p it.placed at)

looks-all : {units : List Entry} {lanes : List Lane} {board : Board} {places : ℕ × ℕ → Option ℕ} {names : ℕ × List ℕ → Option ℕ}
    → IsQueues units lanes board places names → (tid : TidOf) (p : ℕ) (at : IsAt tid units places p) → Held p units at.unit
    → (units2 : List Entry) (lanes2 : List Lane) (board2 : Board) → IsGoneAt p units units2 → KeepsLanes lanes lanes2
    → IsQueues units2 lanes2 board2 places names → cost_at p units ≤ most_looks tid (seen units lanes)
looks-all {units} {lanes} {places = places} {names = names} it tid p at held units2 lanes2 board2 goes keeps now =
    let e = goes.gone_at at.unit at.stands in
    subst (λ (t : TidOf). cost_at p units ≤ most_looks t (seen units lanes)) (tid-at tid units places p it.placed at)
    (finish-looks it p at.unit at.stands at.live held.first lanes2 keeps board2
    (subst (λ (l : List Entry). IsQueues l lanes2 board2 places names) e now))

pub take_away-requires-clause-heads_all : goal.take_away-requires-clause-heads_all
take_away-requires-clause-heads_all g c = (held-at c.self.invariant c.args.claim.tid c.args.claim.number c.in-Some.place c.in-Some.ensures c.args.self.now
    c.self.view_is c.requires.held).first

pub take_away-requires-clause-claimed : goal.take_away-requires-clause-claimed
take_away-requires-clause-claimed g c = record {
  claimed = λ u got.
      let at = c.in-Some.ensures in
      let same : at.unit ≡ u = cc (at.stands, got) in
      subst (λ (x : Entry). is_none x.claim ≡ false) same
      (held-at c.self.invariant c.args.claim.tid c.args.claim.number c.in-Some.place at c.args.self.now c.self.view_is c.requires.held).claimed;
}

pub invariant_of-self : goal.invariant_of-self
invariant_of-self g c =
    keeps-all c.self.invariant c.args.claim.tid c.in-Some.place c.in-Some.ensures
    (held-at c.self.invariant c.args.claim.tid c.args.claim.number c.in-Some.place c.in-Some.ensures c.args.self.now c.self.view_is c.requires.held)
    c.take_away.new.self.units c.take_away.new.self.lanes c.take_away.new.self.board c.take_away.ensures.units c.take_away.ensures.lanes
    c.take_away.ensures.kept

pub returns-in-Some-clause-finished : goal.returns-in-Some-clause-finished
returns-in-Some-clause-finished g c =
    sees-all c.self.invariant c.args.claim.tid c.in-Some.place c.in-Some.ensures
    (held-at c.self.invariant c.args.claim.tid c.args.claim.number c.in-Some.place c.in-Some.ensures c.args.self.now c.self.view_is c.requires.held)
    c.take_away.new.self.units c.take_away.new.self.lanes c.take_away.ensures.units c.take_away.ensures.lanes
    ∙ ap (λ (queues : QueuesOf). finished c.args.claim.tid queues) c.self.view_is

pub returns-in-Some-clause-cost : goal.returns-in-Some-clause-cost
returns-in-Some-clause-cost g c =
    let looks = looks-all c.self.invariant c.args.claim.tid c.in-Some.place c.in-Some.ensures
    (held-at c.self.invariant c.args.claim.tid c.args.claim.number c.in-Some.place c.in-Some.ensures c.args.self.now c.self.view_is c.requires.held)
    c.take_away.new.self.units c.take_away.new.self.lanes c.take_away.new.self.board c.take_away.ensures.units c.take_away.ensures.lanes
    (invariant_of-self g c) in
    let most : cost_at c.in-Some.place c.self.inside.counting.units ≤ most_looks c.args.claim.tid c.args.self.now =
    subst (λ (queues : QueuesOf). cost_at c.in-Some.place c.self.inside.counting.units ≤ most_looks c.args.claim.tid queues) c.self.view_is looks in
    omega (arith, most, c.take_away.ensures.cost)

pub returns-in-None-clause-finished : goal.returns-in-None-clause-finished
returns-in-None-clause-finished g c =
    let none : unit_of c.args.claim.tid c.args.self.now ≡ None = ap (λ (queues : QueuesOf). unit_of c.args.claim.tid queues) (sym c.self.view_is)
    ∙ unit_of-gone c.args.claim.tid c.self.inside.counting.units c.self.inside.counting.lanes (get numbers_cmp c.self.inside.places) c.self.invariant.placed
    c.in-None.ensures.nowhere in
    let held : None ≡ Some c.args.claim.number = sym (ap (λ (o : Option QueuedUnit). option_and_then (λ (unit : QueuedUnit). unit.claim) o) none)
    ∙ c.requires.held in
    absurd (cc (held))
