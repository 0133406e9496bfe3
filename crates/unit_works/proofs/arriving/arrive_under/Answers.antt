use Rattle.std.specs.Result.{is_ok}
use Rattle.std.proofs.Common.{true, false, refl, sym, subst}
use Rattle.unit_core.proofs.TidLemmas.{unit_named-Some}
use Rattle.trfc_protocol.specs.Worlds.{committed_by}
use Rattle.unit_landscape.specs.KeptWorlds.{KeptOf}
use Rattle.document_state.specs.declared.document_tables.DocumentTables.{DocumentTables}
use Rattle.document_state.specs.declared.model_rules.ModelRules.{ModelRules}
use Rattle.unit_works.specs.Events.{is_arrival}
use Rattle.unit_works.specs.steps.Arriving.{BeginsOn, ClaimsCome}
use Rattle.unit_works.proofs.WorkedLemmas.{arrived-on, meaning, on, short-of, still}
use Rattle.unit_works.proofs.arriving.arrive_under.Goals as goal

pub returns-in_err-arrive_again-clause-went : goal.returns-in_err-arrive_again-clause-went
returns-in_err-arrive_again-clause-went g c =
    short-of g.V.Volumes.disk is_arrival c.args.landscape.now c.arrive_again.new.landscape
    c.from_residual-in_err-arrive_again.result c.from_residual-in_err-arrive_again.ensures.0
    (on g.V.Volumes.disk is_arrival false c.args.landscape.now c.arrive.new.landscape c.arrive_again.new.landscape c.in_ok-first.ensures.went
    c.in_err-arrive_again.ensures.went)

pub returns-clause-went : goal.returns-clause-went
returns-clause-went g c =
    on g.V.Volumes.disk is_arrival true c.args.landscape.now c.arrive.new.landscape c.arrive_again.new.landscape c.in_ok-first.ensures.went
    c.in_ok-arrive_again.ensures.went

pub returns-clause-claims : goal.returns-clause-claims
returns-clause-claims g c =
    subst (λ (k : KeptOf ModelRules DocumentTables g.row.V.Denot). ClaimsCome c.args.landscape.now.world k.world c.in_ok-first.first)
    (sym c.in_ok-arrive_again.ensures.same) c.in_ok-first.ensures.claims

pub returns-in_err-unit-clause-went : goal.returns-in_err-unit-clause-went
returns-in_err-unit-clause-went g c = still g.V.Volumes.disk is_arrival (is_ok c.from_residual.result) c.args.landscape.now c.args.landscape.now refl

pub returns-clause-grew : goal.returns-clause-grew
returns-clause-grew g c =
    arrived-on g.V.Volumes.disk c.args.landscape.now c.arrive.new.landscape c.arrive_again.new.landscape c.args.claim.now.tid c.in_ok-unit.unit
    c.in_ok-first.first c.in_ok-unit.ensures c.in_ok-first.ensures.grew
    c.in_ok-arrive_again.ensures.same

pub returns-clause-run : goal.returns-clause-run
returns-clause-run g c =
    let world = c.args.landscape.now.world in
    let tid = c.args.claim.now.tid in
    subst (λ t. BeginsOn t c.in_ok-first.first)
    (unit_named-Some tid (committed_by (meaning world.rules) world tid.system) c.in_ok-unit.unit c.in_ok-unit.ensures).1 c.in_ok-first.ensures.run
