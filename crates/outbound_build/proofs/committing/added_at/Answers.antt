use Rattle.std.proofs.Common.{◌≡◌, ◌≤◌, ℕ, ◌+◌, refl, OnOk, ap, sym, subst, ◌∙◌, arith}
use Rattle.outbound_build.specs.Added.{added_by, units_with}
use Rattle.outbound_build.specs.Committed.{units_behind}
use Rattle.outbound_build.proofs.CommitLemmas.{IsNoSystem, added-count, no-system}
use Rattle.outbound_build.proofs.committing.added_at.Goals as goal

pub returns-in-None-clause-more : goal.returns-in-None-clause-more
returns-in-None-clause-more c =
    let none : IsNoSystem c.args.number = c.in-None.ensures.none.0 refl in
    c.nothing.ensures ∙ sym (no-system c.args.model.now c.args.number c.args.outbox.now c.args.next.now c.as_lists-lists.ensures.kept none)

pub returns-in-None-clause-few : goal.returns-in-None-clause-few
returns-in-None-clause-few c =
    let outbox = c.args.outbox.now in
    let none : IsNoSystem c.args.number = c.in-None.ensures.none.0 refl in
    let same : units_behind outbox (added_by c.args.model.now c.args.number outbox c.args.next.now) ≡ outbox.units + 0
    = ap (units_behind outbox) (no-system c.args.model.now c.args.number outbox c.args.next.now c.as_lists-lists.ensures.kept none) in
    omega arith

pub returns-in-Some-clause-few : goal.returns-in-Some-clause-few
returns-in-Some-clause-few c =
    let model = c.args.model.now in
    let outbox = c.args.outbox.now in
    let next = c.args.next.now in
    let same : units_with model c.in-Some.system outbox next ≡ units_behind outbox (added_by model c.args.number outbox next)
    = ap (λ (n : ℕ). units_with model n outbox next) c.in-Some.ensures.found ∙ sym (added-count model c.args.number outbox next) in
    subst (λ (n : ℕ). OnOk c.added.result (n ≤ 65536)) same c.added.ensures.few

pub returns-in-Some-clause-too_many : goal.returns-in-Some-clause-too_many
returns-in-Some-clause-too_many c count is =
    let model = c.args.model.now in
    let outbox = c.args.outbox.now in
    let next = c.args.next.now in
    let same : units_with model c.in-Some.system outbox next ≡ units_behind outbox (added_by model c.args.number outbox next)
    = ap (λ (n : ℕ). units_with model n outbox next) c.in-Some.ensures.found ∙ sym (added-count model c.args.number outbox next) in
    let told = c.added.ensures.too_many count is in
    (told.0 ∙ same, told.1)
