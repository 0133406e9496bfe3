use Rattle.std.proofs.Common.{true, refl, sym, ◌∙◌}
use Rattle.unit_works.specs.Events.{is_arrival}
use Rattle.unit_works.proofs.ArrivingLemmas.{nothing-arrived}
use Rattle.unit_works.proofs.WorkedLemmas.{meaning, still}
use Rattle.unit_works.proofs.arriving.arrive_again.Goals as goal

pub returns-else-is_twice-clause-went : goal.returns-else-is_twice-clause-went
returns-else-is_twice-clause-went g c = still g.V.Volumes.disk is_arrival true c.args.landscape.now c.args.landscape.now refl

pub returns-in_ok-_second-clause-same : goal.returns-in_ok-_second-clause-same
returns-in_ok-_second-clause-same g c =
    nothing-arrived (meaning c.args.landscape.now.world.rules) g.V.Volumes.disk c.args.landscape.now c.arrive.new.landscape c.args.claim.now
    c.args.unit.now c.in_ok-_second._second (c.requires.again (sym c.holds.ensures ∙ c.if-holds.true)) c.in_ok-_second.ensures.arrived
