use Rattle.unit_works.proofs.DrainedLemmas.{found-idle}
use Rattle.unit_works.proofs.rounds.go_round.Goals as goal

pub returns-clause-found : goal.returns-clause-found
returns-clause-found g c =
    found-idle g.V.Volumes.disk c.args.landscape.now c.visit_all.new.landscape c.args.wires.now c.visit_all.new.wires c.in_ok-found.found
    c.world.ensures.safe c.in_ok-found.ensures.found
