use Rattle.std.specs.Prelude.{Err, IfOk}
use Rattle.std.proofs.Common.{◌≡◌, ◌+◌, true, ap, subst, ◌∙◌}
use Rattle.trfc_protocol.specs.Worlds.{without_claim}
use Rattle.unit_landscape.specs.Calls.{stands_in}
use Rattle.unit_works.specs.Claims.{AreOrGone}
use Rattle.unit_works.specs.Finished.{finished_in}
use Rattle.unit_works.specs.steps.Ending.{FinishedSo, ended_by, ended_of}
use Rattle.unit_works.proofs.EndingLemmas.{finished-finished, has-finished, left-finished, went-finished, went-finished_short}
use Rattle.unit_works.proofs.WorkedLemmas.{meaning, is_lawful}
use Rattle.unit_works.proofs.ending.finish_with.Goals as goal

pub returns-in-Ok-clause-went : goal.returns-in-Ok-clause-went
returns-in-Ok-clause-went g c =
    went-finished meaning is_lawful c.args.landscape.now c.world.ensures.safe c.args.claim g.V.Volumes.disk c.finish.new.self
    c.finish.ensures.sound c.finish.result c.finish.ensures.ends (λ short. let is = c.in-Ok.is in cc)

pub returns-in-Err-Stale-clause-went : goal.returns-in-Err-Stale-clause-went
returns-in-Err-Stale-clause-went g c =
    went-finished meaning is_lawful c.args.landscape.now c.world.ensures.safe c.args.claim g.V.Volumes.disk c.finish.new.self
    c.finish.ensures.sound c.finish.result c.finish.ensures.ends (λ short. let is = c.in-Err-Stale.is in let its = c.in-Err-Stale.field-0-is in cc)

pub returns-in-Ok-clause-finished : goal.returns-in-Ok-clause-finished
returns-in-Ok-clause-finished g c =
    subst (λ r. IfOk (ended_of r) (λ given. finished_in c.finish.new.self.world ≡ finished_in c.args.landscape.now.world + ended_by given)) c.in-Ok.is
    (finished-finished meaning is_lawful c.args.landscape.now c.world.ensures.safe c.args.claim g.V.Volumes.disk c.finish.new.self c.finish.result
    c.finish.ensures.ends)

pub returns-in-Ok-clause-left : goal.returns-in-Ok-clause-left
returns-in-Ok-clause-left g c =
    subst (λ r. IfOk (ended_of r) (λ given. stands_in c.args.landscape.now.world c.args.claim ≡ true
    → AreOrGone c.args.landscape.now.world c.finish.new.self.world (without_claim c.args.landscape.now.world c.args.claim.number).claims)) c.in-Ok.is
    (left-finished meaning is_lawful c.args.landscape.now c.world.ensures.safe c.args.claim g.V.Volumes.disk c.finish.new.self c.finish.result
    c.finish.ensures.ends)

pub returns-in-Err-Stale-clause-left : goal.returns-in-Err-Stale-clause-left
returns-in-Err-Stale-clause-left g c =
    subst (λ r. IfOk (ended_of r) (λ given. stands_in c.args.landscape.now.world c.args.claim ≡ true
    → AreOrGone c.args.landscape.now.world c.finish.new.self.world (without_claim c.args.landscape.now.world c.args.claim.number).claims))
    (c.in-Err-Stale.is ∙ ap Err c.in-Err-Stale.field-0-is)
    (left-finished meaning is_lawful c.args.landscape.now c.world.ensures.safe c.args.claim g.V.Volumes.disk c.finish.new.self c.finish.result
    c.finish.ensures.ends)

pub returns-in-Err-OutOfMemory-clause-went : goal.returns-in-Err-OutOfMemory-clause-went
returns-in-Err-OutOfMemory-clause-went g c =
    went-finished_short meaning is_lawful c.args.landscape.now c.world.ensures.safe c.args.claim g.V.Volumes.disk c.finish.new.self
    c.finish.ensures.sound c.finish.result c.finish.ensures.ends

pub returns-in-Ok-clause-grew : goal.returns-in-Ok-clause-grew
returns-in-Ok-clause-grew g c = λ held holds.
    subst (λ r. IfOk (ended_of r) (FinishedSo (meaning c.args.landscape.now.world.rules) c.args.landscape.now c.finish.new.self c.args.claim held)) c.in-Ok.is
    (has-finished meaning is_lawful c.args.landscape.now c.world.ensures.safe c.args.claim g.V.Volumes.disk c.finish.new.self held holds c.finish.result
    c.finish.ensures.ends)

pub returns-in-Err-Stale-clause-grew : goal.returns-in-Err-Stale-clause-grew
returns-in-Err-Stale-clause-grew g c = λ held holds.
    subst (λ r. IfOk (ended_of r) (FinishedSo (meaning c.args.landscape.now.world.rules) c.args.landscape.now c.finish.new.self c.args.claim held))
    (c.in-Err-Stale.is ∙ ap Err c.in-Err-Stale.field-0-is)
    (has-finished meaning is_lawful c.args.landscape.now c.world.ensures.safe c.args.claim g.V.Volumes.disk c.finish.new.self held holds c.finish.result
    c.finish.ensures.ends)
