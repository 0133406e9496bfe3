use Rattle.std.specs.Option.{option_copied}
use Rattle.std.proofs.Common.{subst}
use Rattle.unit_landscape.specs.KeptWorlds.{KeptOf}
use Rattle.document_state.specs.declared.document_tables.DocumentTables.{DocumentTables}
use Rattle.document_state.specs.declared.model_rules.ModelRules.{ModelRules}
use Rattle.landscape.specs.Shown.{AreShownBy}
use Rattle.landscape.proofs.ShownLemmas.{shown-by}
use Rattle.landscape.proofs.landscape.Landscape.shown_by.Goals as goal

pub returns : goal.returns
returns g c =
    subst (λ (k : KeptOf ModelRules DocumentTables g.row.V.Denot). AreShownBy k.world c.args.system (option_copied c.tables.result)) c.self.view_is
    (shown-by c.self.inside.units c.args.system (option_copied c.tables.result) c.tables.ensures)
