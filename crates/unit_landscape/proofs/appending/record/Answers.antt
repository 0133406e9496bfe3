use Rattle.trfc_protocol.proofs.RecordLemmas.{MayWrite-record}
use Rattle.unit_landscape.specs.Appending.{at}
use Rattle.unit_landscape.proofs.CrashLemmas.{leaves-written}
use Rattle.unit_landscape.proofs.EventLemmas.{event-up, event-writable}
use Rattle.unit_landscape.proofs.JoinsLemmas.{event-joins}
use Rattle.unit_landscape.proofs.EndsLemmas.{ends-as, landscape-ends}
use Rattle.unit_landscape.proofs.appending.record.Goals as goal

pub append-requires : goal.append-requires
append-requires g c =
    let world = c.args.kept.now.world in
    let rules = g.R.Rules.meaning c.args.kept.now.world.rules in
    let lawful = g.met.R.Rules.lawful c.args.kept.now.world.rules in
    let is = c.requires.landscape in
    let due = c.requires.due in
    record {
      can = record {
        writes = record {
          up = event-up rules lawful world is.safe is.writable due.event c.args.system c.args.next c.args.claim due.appends;
          apart = is.safe.apart;
          writable = event-writable rules lawful world is.safe is.writable due.event c.args.system c.args.next c.args.claim due.appends;
        };
        joins = event-joins rules lawful world is.safe is.writable due.event c.args.system c.args.next c.args.claim due.appends c.args.more.now due.commits;
        goes = due.goes;
      };
    }

pub returns-clause-ends : goal.returns-clause-ends
returns-clause-ends g c = λ e does.
    ends-as g.R.Rules.meaning g.met.R.Rules.lawful g.A.Application.stands g.V.Volumes.disk c.args.kept.now
    c.requires.landscape c.append.new.self c.args.system c.args.next c.args.claim e does c.append.result c.world.ensures.kept c.append.ensures.did
    c.append.ensures.journals c.append.ensures.unchanged c.append.ensures.causes c.append.ensures.full c.append.ensures.faults

pub returns-clause-landscape : goal.returns-clause-landscape
returns-clause-landscape g c =
    let due = c.requires.due in
    landscape-ends g.R.Rules.meaning g.met.R.Rules.lawful g.A.Application.stands g.V.Volumes.disk c.args.kept.now
    c.requires.landscape c.append.new.self c.args.system c.args.next c.args.claim due.event due.appends c.append.result
    (ends-as g.R.Rules.meaning g.met.R.Rules.lawful g.A.Application.stands g.V.Volumes.disk c.args.kept.now
    c.requires.landscape c.append.new.self c.args.system c.args.next c.args.claim due.event due.appends c.append.result c.world.ensures.kept
    c.append.ensures.did
    c.append.ensures.journals c.append.ensures.unchanged c.append.ensures.causes c.append.ensures.full c.append.ensures.faults)

pub returns-clause-sound : goal.returns-clause-sound
returns-clause-sound g c = λ tells.
    let world = c.args.kept.now.world in
    let rules = g.R.Rules.meaning c.args.kept.now.world.rules in
    let lawful = g.met.R.Rules.lawful c.args.kept.now.world.rules in
    let safe = c.requires.landscape.safe in
    let due = c.requires.due in
    leaves-written g.R.Rules.meaning g.V.Volumes.disk c.args.kept.now g.met.V.Volumes.only_now c.world.ensures.kept.on_volumes lawful safe tells
    c.append.new.self (at c.args.system c.args.next)
    (MayWrite-record rules lawful world safe due.event (at c.args.system c.args.next) due.appends.writes)
    (record { any_moment = c.append.ensures.any_moment; others = c.append.ensures.others })
