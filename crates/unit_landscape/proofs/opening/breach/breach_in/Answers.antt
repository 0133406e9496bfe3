use Rattle.std.specs.Prelude.{MatchOption, None, map}
use Rattle.std.specs.Borrow.{Bor}
use Rattle.std.proofs.Common.{◌≡◌, ◌↔◌, ℕ, List, ap, ◌∙◌}
use Rattle.std.proofs.lemmas.Result.{IfOk-weaker}
use Rattle.unit_core.specs.declared.ale_unit.AleUnit.{AleUnit}
use Rattle.unit_core.specs.declared.records.Record.{Record}
use Rattle.unit_core.specs.Inside.{IsLegalInside}
use Rattle.unit_core.specs.Once.{Once}
use Rattle.unit_core.specs.Systems.{lent, of_system}
use Rattle.once_check.specs.Breaches.{IsUnbroken, IsFirstBreach}
use Rattle.trfc_protocol.specs.declared.world.SystemState.{SystemState}
use Rattle.system_tables.specs.Tables.{TablesOf}
use Rattle.unit_landscape.specs.Breaches.{BreaksAs, KeepsOnce}
use Rattle.unit_landscape.proofs.BreachLemmas.{breaks-as, keeps-once, units-numbered}
use Rattle.unit_landscape.proofs.opening.breach.breach_in.Goals as goal

pub first_breach-requires-clause-numbered : goal.first_breach-requires-clause-numbered
first_breach-requires-clause-numbered g c =
    let both = c.args.both.now in
    units-numbered g.R.Rules.meaning g.A.Application.stands both.world both.tables (g.met.R.Rules.lawful both.world.rules) c.requires.begins c.requires.in_step
    (lent c.as_slice-3.result.now) (lent c.as_slice-4.result.now)
    (ap (λ (l : List (Bor (List Record))). lent l) c.as_slice-3.ensures.value ∙ c.in_ok-logs.ensures
    ∙ ap (λ (states : List SystemState). map (λ (state : SystemState). state.log) states) c.as_slice.ensures)
    (ap (λ (l : List (Bor (List AleUnit))). lent l) c.as_slice-4.ensures.value ∙ c.in_ok-units.ensures
    ∙ ap (λ (tables : List (TablesOf g.row.A.Denot)). map (λ (its : TablesOf g.row.A.Denot). its.units) tables) c.as_slice-2.ensures)

pub returns-clause-first : goal.returns-clause-first
returns-clause-first g c =
    let both = c.args.both.now in
    let logs = lent c.as_slice-3.result.now in
    let units = lent c.as_slice-4.result.now in
    IfOk-weaker c.first_breach.result
    (λ found. MatchOption found (IsUnbroken (of_system units) (of_system logs)) (IsFirstBreach (of_system units) (of_system logs)))
    (BreaksAs (g.R.Rules.meaning both.world.rules) both.world)
    (breaks-as g.R.Rules.meaning g.A.Application.stands both.world both.tables (g.met.R.Rules.lawful both.world.rules) c.requires.begins c.requires.in_step
    logs units
    (ap (λ (l : List (Bor (List Record))). lent l) c.as_slice-3.ensures.value ∙ c.in_ok-logs.ensures
    ∙ ap (λ (states : List SystemState). map (λ (state : SystemState). state.log) states) c.as_slice.ensures)
    (ap (λ (l : List (Bor (List AleUnit))). lent l) c.as_slice-4.ensures.value ∙ c.in_ok-units.ensures
    ∙ ap (λ (tables : List (TablesOf g.row.A.Denot)). map (λ (its : TablesOf g.row.A.Denot). its.units) tables) c.as_slice-2.ensures))
    c.first_breach.ensures.first

pub returns-clause-once : goal.returns-clause-once
returns-clause-once g c =
    let both = c.args.both.now in
    let logs = lent c.as_slice-3.result.now in
    let units = lent c.as_slice-4.result.now in
    IfOk-weaker c.first_breach.result
    (λ found. ((system : ℕ) → IsLegalInside (of_system logs system)) → (found ≡ None) ↔ Once (of_system units) (of_system logs))
    (λ found. (found ≡ None) ↔ KeepsOnce (g.R.Rules.meaning both.world.rules) both.world)
    (keeps-once g.R.Rules.meaning g.A.Application.stands both.world both.tables (g.met.R.Rules.lawful both.world.rules) c.requires.begins c.requires.in_step
    logs units
    (ap (λ (l : List (Bor (List Record))). lent l) c.as_slice-3.ensures.value ∙ c.in_ok-logs.ensures
    ∙ ap (λ (states : List SystemState). map (λ (state : SystemState). state.log) states) c.as_slice.ensures)
    (ap (λ (l : List (Bor (List AleUnit))). lent l) c.as_slice-4.ensures.value ∙ c.in_ok-units.ensures
    ∙ ap (λ (tables : List (TablesOf g.row.A.Denot)). map (λ (its : TablesOf g.row.A.Denot). its.units) tables) c.as_slice-2.ensures))
    c.first_breach.ensures.once
