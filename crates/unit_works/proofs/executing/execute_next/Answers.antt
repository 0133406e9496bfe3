use Rattle.std.specs.Prelude.{IfSome}
use Rattle.std.proofs.Common.{true, false, subst}
use Rattle.unit_works.specs.Events.{is_end, is_execution, is_run}
use Rattle.unit_works.specs.Claiming.{IsExecuted}
use Rattle.unit_works.proofs.WorkedLemmas.{end-executes, executed, executed-short, meaning, on, run-executes, wider}
use Rattle.unit_works.proofs.executing.execute_next.Goals as goal

pub returns-in_err-claim : goal.returns-in_err-claim
returns-in_err-claim g c =
    executed-short g.V.Volumes.disk c.args.landscape.now c.claim_to_execute.new.landscape c.args.system c.from_residual.result c.from_residual.ensures.0
    (wider g.V.Volumes.disk is_run is_execution false c.args.landscape.now c.claim_to_execute.new.landscape run-executes c.in_err-claim.ensures.went)

pub returns-in_err-finished : goal.returns-in_err-finished
returns-in_err-finished g c =
    executed-short g.V.Volumes.disk c.args.landscape.now c.finish.new.landscape c.args.system c.from_residual-in_err-finished.result
    c.from_residual-in_err-finished.ensures.0
    (on g.V.Volumes.disk is_execution false c.args.landscape.now c.claim_to_execute.new.landscape c.finish.new.landscape
    (wider g.V.Volumes.disk is_run is_execution true c.args.landscape.now c.claim_to_execute.new.landscape run-executes c.in_ok-claim.ensures.went)
    (wider g.V.Volumes.disk is_end is_execution false c.claim_to_execute.new.landscape c.finish.new.landscape end-executes c.in_err-finished.ensures.went))

pub returns : goal.returns
returns g c =
    let is = subst (λ found. IfSome found (IsExecuted (meaning c.args.landscape.now.world.rules) c.args.landscape.now.world
    c.claim_to_execute.new.landscape.world
    c.args.system))
    c.in-Some.is c.in_ok-claim.ensures.claim in
    executed g.V.Volumes.disk c.args.landscape.now c.claim_to_execute.new.landscape c.finish.new.landscape c.args.system c.in-Some.claim
    c.in_ok-finished.finished
    c.in_ok-claim.ensures.went c.claim_to_execute.ensures.finished is c.in_ok-finished.ensures.went c.in_ok-finished.ensures.finished
    c.in_ok-finished.ensures.left
    c.in_ok-finished.ensures.grew
    c.ended_by.result c.ended_by.ensures
