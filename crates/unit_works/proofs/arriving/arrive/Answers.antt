use Rattle.std.proofs.lemmas.Result.{IfOk-weaker}
use Rattle.unit_landscape.specs.Calls.{Arrived}
use Rattle.unit_works.proofs.ArrivingLemmas.{again-arrived, arrives-committed, arrives-may, begins-none, claims-arrived, finished-arrived, has-arrived}
use Rattle.unit_works.proofs.ArrivingLemmas.{went-arrived}
use Rattle.unit_works.proofs.WorkedLemmas.{meaning, is_lawful, ok-of}
use Rattle.unit_works.proofs.arriving.arrive.Goals as goal

pub arrive-requires-clause-committed : goal.arrive-requires-clause-committed
arrive-requires-clause-committed g c =
    arrives-committed meaning is_lawful c.args.landscape.now c.world.ensures.safe c.args.claim.now c.args.unit.now c.requires.stands c.requires.committed

pub arrive-requires-clause-may : goal.arrive-requires-clause-may
arrive-requires-clause-may g c =
    arrives-may meaning is_lawful c.args.landscape.now c.world.ensures.safe c.args.claim.now c.args.unit.now c.requires.stands c.requires.committed

pub returns-clause-went : goal.returns-clause-went
returns-clause-went g c =
    went-arrived meaning is_lawful c.args.landscape.now c.world.ensures.safe c.args.claim.now c.args.unit.now c.requires.stands c.requires.committed
    g.V.Volumes.disk c.arrive.new.self c.arrive.ensures.sound c.arrive.result c.arrive.ensures.event c.arrive.ensures.short

pub returns-clause-finished : goal.returns-clause-finished
returns-clause-finished g c =
    ok-of c.arrive.result (Arrived (meaning c.args.landscape.now.world.rules) g.V.Volumes.disk c.args.landscape.now c.arrive.new.self c.args.unit.now)
    c.arrive.ensures.event
    (finished-arrived meaning is_lawful c.args.landscape.now c.world.ensures.safe c.args.claim.now c.args.unit.now c.requires.stands c.requires.committed
    g.V.Volumes.disk c.arrive.new.self)

pub returns-clause-claims : goal.returns-clause-claims
returns-clause-claims g c =
    IfOk-weaker c.arrive.result _ _
    (claims-arrived meaning is_lawful c.args.landscape.now c.world.ensures.safe c.args.claim.now c.args.unit.now c.requires.stands c.requires.committed
    g.V.Volumes.disk c.arrive.new.self) c.arrive.ensures.event

pub returns-clause-none : goal.returns-clause-none
returns-clause-none g c =
    IfOk-weaker c.arrive.result _ _
    (λ given did none. begins-none meaning is_lawful c.args.landscape.now c.world.ensures.safe c.args.claim.now c.args.unit.now c.requires.stands
    c.requires.committed
    g.V.Volumes.disk c.arrive.new.self none given did) c.arrive.ensures.event

pub returns-clause-again : goal.returns-clause-again
returns-clause-again g c =
    ok-of c.arrive.result (Arrived (meaning c.args.landscape.now.world.rules) g.V.Volumes.disk c.args.landscape.now c.arrive.new.self c.args.unit.now)
    c.arrive.ensures.event
    (again-arrived meaning is_lawful c.args.landscape.now c.world.ensures.safe c.args.claim.now c.args.unit.now c.requires.stands c.requires.committed
    g.V.Volumes.disk c.arrive.new.self)

pub returns-clause-grew : goal.returns-clause-grew
returns-clause-grew g c =
    IfOk-weaker c.arrive.result _ _
    (has-arrived meaning is_lawful c.args.landscape.now c.world.ensures.safe c.args.claim.now c.args.unit.now c.requires.stands c.requires.committed
    g.V.Volumes.disk c.arrive.new.self) c.arrive.ensures.event
