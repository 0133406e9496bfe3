use Rattle.std.proofs.Common.{arith}
use Rattle.std.proofs.lemmas.Result.{IfOk-weaker}
use Rattle.unit_landscape.specs.Calls.{ConfirmedAs}
use Rattle.unit_works.proofs.ConfirmingLemmas.{claims-confirmed, finished-confirmed, forgets-confirmed, has-sent, went-confirmed}
use Rattle.unit_works.proofs.WorkedLemmas.{meaning, is_lawful, ok-of}
use Rattle.unit_works.proofs.confirming.send.Goals as goal

pub returns-clause-went : goal.returns-clause-went
returns-clause-went g c =
    went-confirmed meaning is_lawful g.V.Volumes.disk c.args.landscape.now c.confirm.new.self c.world.ensures.safe c.args.tid c.requires.done
    c.confirm.ensures.sound c.confirm.result c.confirm.ensures.event c.confirm.ensures.short

pub returns-clause-ended : goal.returns-clause-ended
returns-clause-ended g c =
    ok-of c.confirm.result (ConfirmedAs (meaning c.args.landscape.now.world.rules) g.V.Volumes.disk c.args.landscape.now c.confirm.new.self c.args.tid)
    c.confirm.ensures.event
    (λ given did. record {
      finished =
          let count = finished-confirmed meaning is_lawful g.V.Volumes.disk c.args.landscape.now c.confirm.new.self c.world.ensures.safe c.args.tid
          c.requires.done given did in
          omega (arith, count);
      claims = claims-confirmed meaning is_lawful g.V.Volumes.disk c.args.landscape.now c.confirm.new.self c.world.ensures.safe c.args.tid c.requires.done
          given did;
    })

pub returns-clause-forgets : goal.returns-clause-forgets
returns-clause-forgets g c =
    IfOk-weaker c.confirm.result _ _
    (forgets-confirmed meaning is_lawful g.V.Volumes.disk c.args.landscape.now c.confirm.new.self c.world.ensures.safe c.args.tid c.requires.done)
    c.confirm.ensures.event

pub returns-clause-sent : goal.returns-clause-sent
returns-clause-sent g c = λ unit named up.
    IfOk-weaker c.confirm.result _ _
    (has-sent meaning is_lawful g.V.Volumes.disk c.args.landscape.now c.confirm.new.self c.world.ensures.safe c.args.tid c.requires.done unit named up)
    c.confirm.ensures.event
