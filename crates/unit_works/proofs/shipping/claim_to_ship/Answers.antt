use Rattle.unit_works.proofs.ClaimingLemmas.{went-claimed_out, finished-out, shipped-out}
use Rattle.unit_works.proofs.WorkedLemmas.{meaning, is_lawful}
use Rattle.unit_works.proofs.shipping.claim_to_ship.Goals as goal

pub returns-clause-went : goal.returns-clause-went
returns-clause-went g c =
    went-claimed_out meaning is_lawful g.V.Volumes.disk c.args.landscape.now c.claim_out.new.self c.world.ensures.safe c.args.system
    c.claim_out.ensures.sound c.claim_out.result c.claim_out.ensures.event c.claim_out.ensures.err

pub returns-clause-finished : goal.returns-clause-finished
returns-clause-finished g c =
    finished-out meaning is_lawful g.V.Volumes.disk c.args.landscape.now c.claim_out.new.self c.world.ensures.safe c.args.system c.claim_out.result
    c.claim_out.ensures.event c.claim_out.ensures.err

pub returns-clause-claim : goal.returns-clause-claim
returns-clause-claim g c =
    shipped-out meaning is_lawful g.V.Volumes.disk c.args.landscape.now c.claim_out.new.self c.world.ensures.safe c.args.system c.claim_out.result
    c.claim_out.ensures.event
