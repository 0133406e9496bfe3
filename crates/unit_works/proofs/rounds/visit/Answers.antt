use Rattle.std.proofs.Common.{true, false, sym, subst}
use Rattle.unit_landscape.specs.KeptWorlds.{KeptOf}
use Rattle.document_state.specs.declared.document_tables.DocumentTables.{DocumentTables}
use Rattle.document_state.specs.declared.model_rules.ModelRules.{ModelRules}
use Rattle.unit_works.specs.Drained.{Found}
use Rattle.unit_works.specs.Events.{is_work}
use Rattle.unit_works.specs.Worked.{NothingIn, NothingOut}
use Rattle.unit_works.specs.steps.Rounds.{NothingAt}
use Rattle.unit_works.proofs.DrainedLemmas.{executed-found, executed-went, found-on, found-short, found-went, shipped-found}
use Rattle.unit_works.proofs.WorkedLemmas.{executed-claims, on, shipped-claims}
use Rattle.unit_works.proofs.WorkedLemmas.{gone-on as claims-on}
use Rattle.unit_works.proofs.rounds.visit.Goals as goal

pub returns-in_err-executed-clause-found : goal.returns-in_err-executed-clause-found
returns-in_err-executed-clause-found g c =
    let before = c.args.landscape.now in
    let between = c.ship_next.new.landscape in
    let after = c.execute_next.new.landscape in
    let lines = c.args.wires.now in
    let lines_after = c.ship_next.new.wires in
    found-short g.V.Volumes.disk before after lines lines_after 2 (NothingAt before.world c.args.system)
    c.from_residual-in_err-executed.result c.from_residual-in_err-executed.ensures.0
    (on g.V.Volumes.disk is_work false before between after
    (found-went g.V.Volumes.disk before between lines lines_after 1 (NothingOut before.world c.args.system) c.in_ok-shipped.shipped
    (shipped-found g.V.Volumes.disk before between lines lines_after c.args.system c.in_ok-shipped.shipped c.in_ok-shipped.ensures))
    (executed-went g.V.Volumes.disk false between after c.in_err-executed.ensures))

pub returns-clause-found : goal.returns-clause-found
returns-clause-found g c =
    let before = c.args.landscape.now in
    let between = c.ship_next.new.landscape in
    let after = c.execute_next.new.landscape in
    let lines = c.args.wires.now in
    let lines_after = c.ship_next.new.wires in
    subst (Found g.V.Volumes.disk before lines after lines_after 2 (NothingAt before.world c.args.system)) (sym c.joined.ensures)
    (found-on g.V.Volumes.disk before between after lines lines_after lines_after 1 1 (NothingOut before.world c.args.system)
    (λ (k : KeptOf ModelRules DocumentTables g.row.V.Denot). NothingIn k.world c.args.system) c.in_ok-shipped.shipped c.in_ok-executed.executed
    (shipped-found g.V.Volumes.disk before between lines lines_after c.args.system c.in_ok-shipped.shipped c.in_ok-shipped.ensures)
    (executed-found g.V.Volumes.disk between after lines_after c.args.system c.in_ok-executed.executed c.in_ok-executed.ensures))

pub returns-clause-claims : goal.returns-clause-claims
returns-clause-claims g c =
    let before = c.args.landscape.now in
    let between = c.ship_next.new.landscape in
    let after = c.execute_next.new.landscape in
    let lines = c.args.wires.now in
    let lines_after = c.ship_next.new.wires in
    claims-on g.V.Volumes.disk is_work is_work true before between after
    (found-went g.V.Volumes.disk before between lines lines_after 1 (NothingOut before.world c.args.system) c.in_ok-shipped.shipped
    (shipped-found g.V.Volumes.disk before between lines lines_after c.args.system c.in_ok-shipped.shipped c.in_ok-shipped.ensures))
    (found-went g.V.Volumes.disk between after lines_after lines_after 1 (NothingIn between.world c.args.system) c.in_ok-executed.executed
    (executed-found g.V.Volumes.disk between after lines_after c.args.system c.in_ok-executed.executed c.in_ok-executed.ensures))
    before.world.claims
    (shipped-claims g.V.Volumes.disk before between lines lines_after c.args.system c.in_ok-shipped.shipped c.in_ok-shipped.ensures)
    (executed-claims g.V.Volumes.disk between after c.args.system c.in_ok-executed.executed c.in_ok-executed.ensures)
