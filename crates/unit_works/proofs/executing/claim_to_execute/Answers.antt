use Rattle.unit_works.proofs.ClaimingLemmas.{went-claimed_in, finished-in, executed-in}
use Rattle.unit_works.proofs.WorkedLemmas.{meaning, is_lawful}
use Rattle.unit_works.proofs.executing.claim_to_execute.Goals as goal

pub returns-clause-went : goal.returns-clause-went
returns-clause-went g c =
    went-claimed_in meaning is_lawful g.V.Volumes.disk c.args.landscape.now c.claim_in.new.self c.world.ensures.safe c.args.system
    c.claim_in.ensures.sound c.claim_in.result c.claim_in.ensures.event c.claim_in.ensures.err

pub returns-clause-finished : goal.returns-clause-finished
returns-clause-finished g c =
    finished-in meaning is_lawful g.V.Volumes.disk c.args.landscape.now c.claim_in.new.self c.world.ensures.safe c.args.system c.claim_in.result
    c.claim_in.ensures.event c.claim_in.ensures.err

pub returns-clause-claim : goal.returns-clause-claim
returns-clause-claim g c =
    executed-in meaning is_lawful g.V.Volumes.disk c.args.landscape.now c.claim_in.new.self c.world.ensures.safe c.args.system c.claim_in.result
    c.claim_in.ensures.event
