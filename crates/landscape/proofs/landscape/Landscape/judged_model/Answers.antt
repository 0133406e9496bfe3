use Rattle.std.specs.Arc.{arc_value}
use Rattle.std.proofs.Common.{List, ap, subst, ◌∙◌}
use Rattle.unit_core.specs.declared.records.Record.{Record}
use Rattle.trfc_protocol.specs.Worlds.{log_of}
use Rattle.unit_landscape.specs.KeptWorlds.{KeptOf}
use Rattle.document_state.specs.declared.document_tables.DocumentTables.{DocumentTables}
use Rattle.document_state.specs.declared.model_rules.ModelRules.{ModelRules}
use Rattle.document_state.specs.Tables.{AreTablesOf}
use Rattle.landscape.specs.Asked.{asked_model}
use Rattle.landscape.specs.steps.Judged.{JudgedModelOrNone}
use Rattle.landscape.proofs.AllowedLemmas.{model-may}
use Rattle.landscape.proofs.CarriedLemmas.{model_or_none-ready}
use Rattle.landscape.proofs.landscape.Landscape.judged_model.Goals as goal

pub returns-clause-judged : goal.returns-clause-judged
returns-clause-judged g c =
    let stand = c.in_ok-tables.ensures.up in
    let world = c.args.self.now.world in
    let new = arc_value c.args.model.now in
    let log = log_of world c.args.system in
    model_or_none-ready world c.args.system (λ records. asked_model records new c.args.text.now) c.in_ok-tables.tables.now stand
    (λ next asked. model-may log stand.model stand.in_force new c.args.text.now next c.requires.says asked) c.bring.result
    (subst (λ (records : List Record). AreTablesOf records c.in_ok-tables.tables.now
    → JudgedModelOrNone records (asked_model records new c.args.text.now) c.bring.result)
    (c.log.ensures ∙ ap (λ (k : KeptOf ModelRules DocumentTables g.row.V.Denot). log_of k.world c.args.system) c.self.view_is) c.bring.ensures stand.stand)
