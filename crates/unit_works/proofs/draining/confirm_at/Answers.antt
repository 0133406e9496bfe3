use Rattle.std.proofs.Common.{◌≡◌, false, true, refl, subst, sym}
use Rattle.landscape.specs.Shown.{AreUnconfirmedAt}
use Rattle.ale_base.specs.Tid.{TidOf}
use Rattle.unit_core.specs.Queues.{is_listed}
use Rattle.unit_works.specs.Events.{is_work}
use Rattle.unit_works.proofs.DrainedLemmas.{due-found, found-here, visited-short, visited-so}
use Rattle.unit_works.proofs.WorkedLemmas.{still}
use Rattle.unit_works.proofs.draining.confirm_at.Goals as goal

pub returns-clause-visited : goal.returns-clause-visited
returns-clause-visited g c =
    visited-so g.V.Volumes.disk c.args.landscape.now c.confirm_each.new.landscape c.args.wires.now c.confirm_each.new.wires
    (λ (other : TidOf). is_listed other c.as_slice.result.now ≡ true) (λ (other : TidOf). other.system ≡ c.args.system) c.confirm_each.result
    (λ unit here named due. due-found c.args.landscape.now.world c.world.ensures.safe unit c.args.system c.as_slice.result.now
    (subst (AreUnconfirmedAt c.args.landscape.now.world c.args.system) (sym c.as_slice.ensures) c.in_ok-tids.ensures.unconfirmed) here named due)
    (λ tid range listed. found-here c.args.landscape.now.world c.world.ensures.safe c.args.system c.as_slice.result.now
    (subst (AreUnconfirmedAt c.args.landscape.now.world c.args.system) (sym c.as_slice.ensures) c.in_ok-tids.ensures.unconfirmed) tid range listed)
    c.confirm_each.ensures.visited

pub returns-in_err-tids-clause-visited : goal.returns-in_err-tids-clause-visited
returns-in_err-tids-clause-visited g c =
    visited-short g.V.Volumes.disk c.args.landscape.now c.args.landscape.now c.args.wires.now c.args.wires.now
    (λ (other : TidOf). other.system ≡ c.args.system) c.from_residual.result c.from_residual.ensures.0
    (still g.V.Volumes.disk is_work false c.args.landscape.now c.args.landscape.now refl)
