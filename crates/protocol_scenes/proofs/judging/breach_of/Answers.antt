use Rattle.std.specs.Borrow.{Bor}
use Rattle.std.proofs.Common.{List, ap, map, take, ◌∙◌}
use Rattle.unit_core.specs.declared.ale_unit.AleUnit.{AleUnit}
use Rattle.unit_core.specs.Systems.{lent}
use Rattle.protocol_scenes.proofs.TablesLemmas.{AreNumbered-fronts}
use Rattle.protocol_scenes.proofs.judging.breach_of.Goals as goal

pub first_breach-requires-clause-numbered : goal.first_breach-requires-clause-numbered
first_breach-requires-clause-numbered c =
    AreNumbered-fronts c.args.rules.now.units c.args.committed c.args.rules.now.listed (lent c.as_slice-3.result.now)
    (ap (λ (fronts : List (Bor (List AleUnit))). lent fronts) c.as_slice-3.ensures.value ∙ c.in_ok-fronts.ensures
    ∙ ap (λ (lists : List (List AleUnit)). map (take c.args.committed) lists) c.as_slice.ensures)
