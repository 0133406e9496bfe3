use Rattle.std.specs.Prelude.{IsTrue}
use Rattle.std.specs.Option.{option_and_then, option_eq}
use Rattle.std.proofs.lemmas.Bool.{eqb-true, eq-eqb}
use Rattle.std.proofs.lemmas.Option.{same_Some}
use Rattle.std.specs.BTreeMap.{get}
use Rattle.std.proofs.Common.{◌≡◌, ◌↔◌, eqb, ℕ, false, Option, Some, None, sym, ap, subst, ◌∙◌, rules}
use Rattle.plain_queues.specs.declared.queued_unit.QueuedUnit.{QueuedUnit}
use Rattle.plain_queues.specs.Queues.{QueuesOf, unit_of}
use Rattle.multi_queue.specs.declared.entry.Entry.{Entry}
use Rattle.multi_queue.specs.Seen.{numbers_cmp}
use Rattle.multi_queue.proofs.SeenLemmas.{unit_of-here, unit_of-gone}
use Rattle.multi_queue.proofs.queues.Queues.holds.Goals as goal

same_claim : (a : Option ℕ) (n : ℕ) → IsTrue (option_eq eqb a (Some n)) ↔ (a ≡ Some n)
same_claim None n = (λ no. absurd (cc), λ no. absurd (cc))
same_claim (Some m) n = (λ same. ap (λ k. Some k) (eqb-true m n same), λ same. eq-eqb m n (same_Some m n same))

pub returns-in-Some : goal.returns-in-Some
returns-in-Some c =
    let at = c.in-Some.ensures in
    let same : at.unit ≡ c.index.result.now = cc (at.stands, c.index.ensures) in
    let claim_is = λ (o : Option QueuedUnit). option_and_then (λ (unit : QueuedUnit). unit.claim) o in
    let here = sym (ap (λ (queues : QueuesOf). unit_of c.args.claim.now.tid queues) c.self.view_is)
    ∙ unit_of-here c.args.claim.now.tid c.self.inside.counting.units c.self.inside.counting.lanes (get numbers_cmp c.self.inside.places) c.in-Some.place at.unit
    c.self.invariant.placed at.names at.stands at.live in
    let claim : claim_is (unit_of c.args.claim.now.tid c.args.self.now) ≡ c.index.result.now.claim = ap claim_is here ∙ ap (λ (u : Entry). u.claim) same in
    subst (λ o. IsTrue c.eq.result ↔ (o ≡ Some c.args.claim.now.number)) (sym claim)
    (subst (λ b. IsTrue b ↔ (c.index.result.now.claim ≡ Some c.args.claim.now.number)) (sym c.eq.ensures)
    (same_claim c.index.result.now.claim c.args.claim.now.number))

pub returns-in-None : goal.returns-in-None
returns-in-None c =
    let gone = sym (ap (λ (queues : QueuesOf). unit_of c.args.claim.now.tid queues) c.self.view_is)
    ∙ unit_of-gone c.args.claim.now.tid c.self.inside.counting.units c.self.inside.counting.lanes (get numbers_cmp c.self.inside.places) c.self.invariant.placed
    c.in-None.ensures.nowhere in
    subst (λ (o : Option QueuedUnit). IsTrue false ↔ (option_and_then (λ (unit : QueuedUnit). unit.claim) o ≡ Some c.args.claim.now.number)) (sym gone)
    (search rules)
