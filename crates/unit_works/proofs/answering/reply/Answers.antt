use Rattle.unit_works.proofs.ReplyingLemmas.{appended-replied, finished-replied, left-replied, stale-replied, went-replied, went-replied_short}
use Rattle.unit_works.proofs.WorkedLemmas.{meaning, is_lawful}
use Rattle.unit_works.proofs.answering.reply.Goals as goal

pub returns-in-Ok-clause-went : goal.returns-in-Ok-clause-went
returns-in-Ok-clause-went g c =
    went-replied meaning is_lawful c.args.landscape.now c.world.ensures.safe c.args.claim c.args.given g.V.Volumes.disk c.reply.new.self
    c.reply.ensures.sound c.reply.result c.reply.ensures.ends (λ short. let is = c.in-Ok.is in cc)

pub returns-in-Ok-clause-finished : goal.returns-in-Ok-clause-finished
returns-in-Ok-clause-finished g c =
    finished-replied meaning is_lawful c.args.landscape.now c.world.ensures.safe c.args.claim c.args.given g.V.Volumes.disk c.reply.new.self
    c.reply.result c.reply.ensures.ends (λ short. let is = c.in-Ok.is in cc)

pub returns-in-Ok-clause-left : goal.returns-in-Ok-clause-left
returns-in-Ok-clause-left g c =
    left-replied meaning is_lawful c.args.landscape.now c.world.ensures.safe c.args.claim c.args.given g.V.Volumes.disk c.reply.new.self
    c.reply.result c.reply.ensures.ends (λ short. let is = c.in-Ok.is in cc)

pub returns-in-Err-Stale-clause-went : goal.returns-in-Err-Stale-clause-went
returns-in-Err-Stale-clause-went g c =
    went-replied meaning is_lawful c.args.landscape.now c.world.ensures.safe c.args.claim c.args.given g.V.Volumes.disk c.reply.new.self
    c.reply.ensures.sound c.reply.result c.reply.ensures.ends (λ short. let is = c.in-Err-Stale.is in let its = c.in-Err-Stale.field-0-is in cc)

pub returns-in-Err-Stale-clause-finished : goal.returns-in-Err-Stale-clause-finished
returns-in-Err-Stale-clause-finished g c =
    finished-replied meaning is_lawful c.args.landscape.now c.world.ensures.safe c.args.claim c.args.given g.V.Volumes.disk c.reply.new.self
    c.reply.result c.reply.ensures.ends (λ short. let is = c.in-Err-Stale.is in let its = c.in-Err-Stale.field-0-is in cc)

pub returns-in-Err-Stale-clause-left : goal.returns-in-Err-Stale-clause-left
returns-in-Err-Stale-clause-left g c =
    left-replied meaning is_lawful c.args.landscape.now c.world.ensures.safe c.args.claim c.args.given g.V.Volumes.disk c.reply.new.self
    c.reply.result c.reply.ensures.ends (λ short. let is = c.in-Err-Stale.is in let its = c.in-Err-Stale.field-0-is in cc)

pub returns-in-Err-OutOfMemory-clause-went : goal.returns-in-Err-OutOfMemory-clause-went
returns-in-Err-OutOfMemory-clause-went g c =
    went-replied_short meaning is_lawful c.args.landscape.now c.world.ensures.safe c.args.claim c.args.given g.V.Volumes.disk c.reply.new.self
    c.reply.ensures.sound c.reply.result c.reply.ensures.ends

pub returns-in-Ok-clause-grew : goal.returns-in-Ok-clause-grew
returns-in-Ok-clause-grew g c = λ learnt stands same.
    appended-replied meaning is_lawful c.args.landscape.now c.world.ensures.safe c.args.claim c.args.given g.V.Volumes.disk c.reply.new.self learnt stands
    same
    c.reply.result c.reply.ensures.ends (λ short. let is = c.in-Ok.is in cc)

pub returns-in-Err-Stale-clause-grew : goal.returns-in-Err-Stale-clause-grew
returns-in-Err-Stale-clause-grew g c = λ learnt stands same.
    appended-replied meaning is_lawful c.args.landscape.now c.world.ensures.safe c.args.claim c.args.given g.V.Volumes.disk c.reply.new.self learnt stands
    same
    c.reply.result c.reply.ensures.ends (λ short. let is = c.in-Err-Stale.is in let its = c.in-Err-Stale.field-0-is in cc)

pub returns-in-Ok-clause-stale : goal.returns-in-Ok-clause-stale
returns-in-Ok-clause-stale g c = λ stale.
    stale-replied meaning is_lawful c.args.landscape.now c.world.ensures.safe c.args.claim c.args.given g.V.Volumes.disk c.reply.new.self stale
    c.reply.result c.reply.ensures.ends (λ short. let is = c.in-Ok.is in cc)

pub returns-in-Err-Stale-clause-stale : goal.returns-in-Err-Stale-clause-stale
returns-in-Err-Stale-clause-stale g c = λ stale.
    stale-replied meaning is_lawful c.args.landscape.now c.world.ensures.safe c.args.claim c.args.given g.V.Volumes.disk c.reply.new.self stale
    c.reply.result c.reply.ensures.ends (λ short. let is = c.in-Err-Stale.is in let its = c.in-Err-Stale.field-0-is in cc)
