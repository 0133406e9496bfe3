use Rattle.std.proofs.Common.{false}
use Rattle.unit_works.specs.Events.{is_end, is_execution}
use Rattle.unit_works.proofs.WorkedLemmas.{claim-executed, claim-executed-short, end-executes, wider}
use Rattle.unit_works.proofs.executing.execute_claimed.Goals as goal

pub returns-in_err-finished : goal.returns-in_err-finished
returns-in_err-finished g c =
    claim-executed-short g.V.Volumes.disk c.args.landscape.now c.finish.new.landscape c.args.claim c.from_residual.result c.from_residual.ensures.0
    (wider g.V.Volumes.disk is_end is_execution false c.args.landscape.now c.finish.new.landscape end-executes c.in_err-finished.ensures.went)

pub returns : goal.returns
returns g c =
    claim-executed g.V.Volumes.disk c.args.landscape.now c.finish.new.landscape c.args.claim c.in_ok-finished.finished c.ended_by.result c.world.ensures.safe
    c.in_ok-finished.ensures.stale c.in_ok-finished.ensures.went c.in_ok-finished.ensures.finished c.in_ok-finished.ensures.left
    c.in_ok-finished.ensures.grew c.ended_by.ensures
