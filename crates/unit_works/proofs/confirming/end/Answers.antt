use Rattle.std.proofs.Common.{arith}
use Rattle.unit_landscape.specs.Calls.{ClosedAs}
use Rattle.unit_works.proofs.ConfirmingLemmas.{appended-closed, claims-closed, finished-closed, went-closed}
use Rattle.unit_works.proofs.WorkedLemmas.{meaning, is_lawful, ok-of}
use Rattle.unit_works.proofs.confirming.end.Goals as goal

pub returns-clause-went : goal.returns-clause-went
returns-clause-went g c =
    went-closed meaning is_lawful g.V.Volumes.disk c.args.landscape.now c.ended.new.self c.world.ensures.safe c.args.tid c.requires.forgotten
    c.ended.ensures.sound c.ended.result c.ended.ensures.event c.ended.ensures.short

pub returns-clause-ended : goal.returns-clause-ended
returns-clause-ended g c =
    ok-of c.ended.result (ClosedAs (meaning c.args.landscape.now.world.rules) g.V.Volumes.disk c.args.landscape.now c.ended.new.self c.args.tid)
    c.ended.ensures.event
    (λ given did. record {
      finished =
          let count = finished-closed meaning is_lawful g.V.Volumes.disk c.args.landscape.now c.ended.new.self c.world.ensures.safe c.args.tid
          c.requires.forgotten given did in
          omega (arith, count);
      claims = claims-closed meaning is_lawful g.V.Volumes.disk c.args.landscape.now c.ended.new.self c.world.ensures.safe c.args.tid c.requires.forgotten
          given did;
    })

pub returns-clause-grew : goal.returns-clause-grew
returns-clause-grew g c = λ up lasts.
    ok-of c.ended.result (ClosedAs (meaning c.args.landscape.now.world.rules) g.V.Volumes.disk c.args.landscape.now c.ended.new.self c.args.tid)
    c.ended.ensures.event
    (appended-closed meaning is_lawful g.V.Volumes.disk c.args.landscape.now c.ended.new.self c.world.ensures.safe c.args.tid c.requires.forgotten up lasts)
