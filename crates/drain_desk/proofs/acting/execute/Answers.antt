use Rattle.std.proofs.Common.{refl}
use Rattle.drain_desk.proofs.ActingLemmas.{done-as, executed-as, others-executed}
use Rattle.drain_desk.proofs.acting.execute.Goals as goal

pub returns-clause-acted : goal.returns-clause-acted
returns-clause-acted g c =
    executed-as g.V.Volumes.disk c.args.landscape.now c.execute_claimed.new.landscape c.args.wires.now c.args.wires.now c.args.claim
    c.execute_claimed.result c.world.ensures.safe c.requires.may c.requires.runs refl c.execute_claimed.ensures

pub returns-clause-done : goal.returns-clause-done
returns-clause-done g c =
    done-as g.V.Volumes.disk c.args.landscape.now c.execute_claimed.new.landscape c.args.wires.now c.args.wires.now c.args.claim
    c.execute_claimed.result c.world.ensures.safe c.requires.may c.requires.runs refl c.execute_claimed.ensures

pub returns-clause-others : goal.returns-clause-others
returns-clause-others g c =
    others-executed g.V.Volumes.disk c.args.landscape.now c.execute_claimed.new.landscape c.args.wires.now c.args.wires.now c.args.claim
    c.execute_claimed.result c.execute_claimed.ensures
