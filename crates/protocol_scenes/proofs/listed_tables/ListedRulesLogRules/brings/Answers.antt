use Rattle.std.proofs.Common.{◌++◌, List, sym, ap, ◌∙◌, take}
use Rattle.unit_core.specs.declared.ale_unit.AleUnit.{AleUnit}
use Rattle.protocol_scenes.specs.ListedRules.{commits_of, list_of, units_by}
use Rattle.protocol_scenes.proofs.TablesLemmas.{committed-more}
use Rattle.protocol_scenes.proofs.listed_tables.ListedRulesLogRules.brings.Goals as goal

pub returns-clause-units : goal.returns-clause-units
returns-clause-units c =
    committed-more c.args.self.now.units c.args.system c.args.log.now c.args.next.now c.requires.may.may
    ∙ ap (λ (us : List AleUnit). take (commits_of c.args.log.now) (list_of c.args.self.now.units c.args.system) ++ us)
    (ap (λ (l : List AleUnit). units_by l c.args.log.now c.args.next.now) (sym c.list.ensures) ∙ sym c.in_ok-units.ensures)
