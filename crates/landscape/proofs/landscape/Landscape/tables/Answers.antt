use Rattle.std.specs.Option.{option_copied}
use Rattle.std.proofs.Common.{◌≡◌, true, sym, subst, ◌∙◌}
use Rattle.trfc_protocol.specs.Worlds.{is_up}
use Rattle.unit_landscape.specs.KeptWorlds.{KeptOf}
use Rattle.document_state.specs.declared.document_tables.DocumentTables.{DocumentTables}
use Rattle.document_state.specs.declared.model_rules.ModelRules.{ModelRules}
use Rattle.landscape.specs.Standing.{StandIfUp}
use Rattle.landscape.proofs.StandingLemmas.{stand-if-up}
use Rattle.landscape.proofs.landscape.Landscape.tables.Goals as goal

pub returns : goal.returns
returns g c =
    let kept = c.self.inside.units in
    let up : is_up c.self.inside.units.world c.args.system ≡ true = sym c.is_up.ensures ∙ c.if-not-is_up.false in
    subst (λ (k : KeptOf ModelRules DocumentTables g.row.V.Denot). StandIfUp k.world c.args.system (option_copied c.application.result)) c.self.view_is
    (stand-if-up c.self.inside.units.world c.world.ensures.safe c.self.invariant c.self.inside.units.tables c.world.ensures.kept.in_step c.args.system
    (option_copied c.application.result) up c.application.ensures)
