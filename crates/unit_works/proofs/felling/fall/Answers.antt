use Rattle.std.proofs.Common.{true}
use Rattle.unit_works.proofs.FellingLemmas.{fell-claims, fell-finished, fell-if, fell-went}
use Rattle.unit_works.proofs.WorkedLemmas.{is_lawful, meaning}
use Rattle.unit_works.proofs.felling.fall.Goals as goal

pub returns-clause-went : goal.returns-clause-went
returns-clause-went g c =
    let kept = c.world.ensures.kept in
    fell-went meaning is_lawful g.V.Volumes.disk c.args.landscape.now c.crash.new.self c.args.system c.world.ensures.safe kept.causes
    c.crash.result c.crash.ensures.up (c.crash.ensures.event, c.crash.ensures.same) c.crash.ensures.volumes c.crash.ensures.sound

pub returns-clause-finished : goal.returns-clause-finished
returns-clause-finished g c =
    let kept = c.world.ensures.kept in
    fell-finished meaning is_lawful g.V.Volumes.disk c.args.landscape.now c.crash.new.self c.args.system c.world.ensures.safe kept.causes
    c.crash.result c.crash.ensures.up (c.crash.ensures.event, c.crash.ensures.same)

pub returns-clause-claims : goal.returns-clause-claims
returns-clause-claims g c =
    let kept = c.world.ensures.kept in
    fell-claims meaning is_lawful g.V.Volumes.disk c.args.landscape.now c.crash.new.self c.args.system c.world.ensures.safe kept.causes
    c.crash.result c.crash.ensures.up (c.crash.ensures.event, c.crash.ensures.same)

pub returns-clause-fell : goal.returns-clause-fell
returns-clause-fell g c =
    let kept = c.world.ensures.kept in
    fell-if meaning is_lawful g.V.Volumes.disk c.args.landscape.now c.crash.new.self c.args.system c.world.ensures.safe kept.causes
    c.crash.result c.crash.ensures.up (c.crash.ensures.event, c.crash.ensures.same)
