use Rattle.std.proofs.Common.{false}
use Rattle.unit_works.proofs.DrainedLemmas.{drained-on, none-left}
use Rattle.unit_works.proofs.WorkedLemmas.{on}
use Rattle.unit_works.specs.Events.{is_work}
use Rattle.drain_desk.proofs.DrainLemmas.{revoked-none, revoked-only, revoked-went}
use Rattle.drain_desk.proofs.draining.drain.Goals as goal

pub work-drained-requires-clause-bare : goal.work-drained-requires-clause-bare
work-drained-requires-clause-bare g c = λ lives outlive.
    let visited = c.in-Ok.ensures.visited in
    let worked = visited.worked in
    none-left c.confirm_all.new.landscape.world.claims c.revoke.new.self.world.claims worked.claims
    (revoked-none g.V.Volumes.disk c.args.landscape c.revoke.new.self c.world.ensures.safe c.revoke.ensures.event)

pub returns-in-Ok : goal.returns-in-Ok
returns-in-Ok g c =
    drained-on g.V.Volumes.disk c.args.landscape c.revoke.new.self c.confirm_all.new.landscape c.work-drained.result.landscape c.args.wires
    c.confirm_all.new.wires
    c.work-drained.result.wires c.work-drained.result.end c.world.ensures.safe c.world-in-Ok.ensures.safe
    (revoked-went g.V.Volumes.disk c.args.landscape c.revoke.new.self c.world.ensures.safe c.revoke.ensures.event c.revoke.ensures.sound)
    (revoked-only g.V.Volumes.disk c.args.landscape c.revoke.new.self c.world.ensures.safe c.revoke.ensures.event c.revoke.ensures.volumes)
    (revoked-none g.V.Volumes.disk c.args.landscape c.revoke.new.self c.world.ensures.safe c.revoke.ensures.event) c.in-Ok.ensures.visited
    c.work-drained.ensures

pub returns-in-Err : goal.returns-in-Err
returns-in-Err g c =
    on g.V.Volumes.disk is_work false c.args.landscape c.revoke.new.self c.confirm_all.new.landscape
    (revoked-went g.V.Volumes.disk c.args.landscape c.revoke.new.self c.world.ensures.safe c.revoke.ensures.event c.revoke.ensures.sound)
    c.in-Err.ensures.visited
