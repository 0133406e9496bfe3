use Rattle.std.proofs.Common.{List, ◌+◌, ◌<◌, ℕ, Option, subst, arith}
use Rattle.std.specs.Prelude.{MatchOption}
use Rattle.std.specs.Borrow.{Bor}
use Rattle.std.proofs.lemmas.List.{length-map}
use Rattle.unit_core.specs.declared.records.Record.{Record}
use Rattle.once_check.specs.declared.breach.Clause.{Clause}
use Rattle.unit_core.specs.Systems.{lent, of_system}
use Rattle.once_check.specs.steps.OneSystem.{IsUnbrokenIn, IsFirstIn}
use Rattle.once_check.proofs.FirstLemmas.{IsFirstBreach-behind, IsUnbroken-all, unbroken-more}
use Rattle.once_check.proofs.first.find_breach.Goals as goal

pub returns-in-Some : goal.returns-in-Some
returns-in-Some c =
    let committed = of_system (lent c.args.committed.now) in
    let logs = of_system (lent c.args.logs.now) in
    let system = c.system_at-system.result in
    let before : (other : ℕ) → other < system → IsUnbrokenIn committed logs other =
    λ other less. c.loop-at.invariant other (omega (arith, c.system_at-system.ensures, less)) in
    IsFirstBreach-behind committed logs system c.in-Some.number c.in-Some.clause before
    (subst (λ (found : Option (ℕ × Clause)). MatchOption found (IsUnbrokenIn committed logs system) (λ at. IsFirstIn committed logs system at.0 at.1))
    c.in-Some.is c.in_ok-found.ensures)

pub loop-at-preserved : goal.loop-at-preserved
loop-at-preserved c =
    let committed = of_system (lent c.args.committed.now) in
    let logs = of_system (lent c.args.logs.now) in
    let here : IsUnbrokenIn committed logs c.system_at-system.result =
    subst (λ (found : Option (ℕ × Clause)). MatchOption found (IsUnbrokenIn committed logs c.system_at-system.result)
    (λ at. IsFirstIn committed logs c.system_at-system.result at.0 at.1)) c.in_default.is c.in_ok-found.ensures in
    unbroken-more committed logs (c.loop-at.at + 1) c.loop-at.invariant (subst (IsUnbrokenIn committed logs) c.system_at-system.ensures here)

pub returns : goal.returns
returns c =
    IsUnbroken-all (of_system (lent c.args.committed.now)) (lent c.args.logs.now) c.loop-at.at (omega (arith, length-map c.args.logs.now (λ (list : Bor (List Record)). list.now))) c.loop-at.invariant
