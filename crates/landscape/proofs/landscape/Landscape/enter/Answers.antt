use Rattle.std.specs.Prelude.{OnOk}
use Rattle.std.proofs.Common.{subst}
use Rattle.unit_landscape.specs.KeptWorlds.{KeptOf}
use Rattle.document_state.specs.declared.document_tables.DocumentTables.{DocumentTables}
use Rattle.document_state.specs.declared.model_rules.ModelRules.{ModelRules}
use Rattle.landscape.specs.Reopened.{HasReopenedWith}
use Rattle.landscape.proofs.BegunLemmas.{begun-grown}
use Rattle.landscape.proofs.ReopenedLemmas.{grown-entered, reopened-with}
use Rattle.landscape.proofs.landscape.Landscape.enter.Goals as goal

pub invariant_of-self : goal.invariant_of-self
invariant_of-self g c =
    let before = c.self.inside.units in
    let after = c.reopen.new.self in
    begun-grown before.world after.world c.self.invariant
    (grown-entered before after c.args.looked c.reopen.result c.world.ensures.safe
    (reopened-with before after c.args.looked c.in_ok-tables.tables c.reopen.result c.reopen.ensures.reopened) c.reopen.ensures.err)

pub returns-clause-reopened : goal.returns-clause-reopened
returns-clause-reopened g c =
    let before = c.self.inside.units in
    let after = c.reopen.new.self in
    subst (λ (k : KeptOf ModelRules DocumentTables g.row.V.Denot). OnOk c.reopen.result (HasReopenedWith k after c.args.looked)) c.self.view_is
    (reopened-with before after c.args.looked c.in_ok-tables.tables c.reopen.result c.reopen.ensures.reopened)
