use Rattle.std.proofs.Common.{Some, [], cond, sym, ap, subst, ◌∙◌}
use Rattle.trfc_protocol.specs.declared.event.Event.TheVariants as event
use Rattle.trfc_protocol.specs.RecordOf.{record_of}
use Rattle.unit_landscape.specs.Kept.{IsLandscape}
use Rattle.unit_landscape.specs.Writes.{WritesOnly}
use Rattle.unit_landscape.specs.Calls.{FinishedAs, finish_event}
use Rattle.unit_landscape.specs.Appending.{at, IsDue, EndsSo}
use Rattle.unit_landscape.proofs.HappenedLemmas.{disk-seen, disk-some}
use Rattle.unit_landscape.proofs.EventLemmas.{event-none_more}
use Rattle.unit_landscape.proofs.FinishingLemmas.{in-found, executed-as, executed-record}
use Rattle.unit_landscape.proofs.landscape.UnitLandscape.execute.Goals as goal

pub work_record-requires-clause-found : goal.work_record-requires-clause-found
work_record-requires-clause-found g c = in-found c.args.self.now.world c.args.claim c.args.held c.requires.holds

pub returns-in-Err-clause-disk : goal.returns-in-Err-clause-disk
returns-in-Err-clause-disk g c =
    disk-seen g.V.Volumes.disk g.met.V.Volumes.only_now
    g.R.Rules.meaning g.met.R.Rules.lawful c.self.inside.kept c.args.self.now c.self.view_is c.self.invariant c.world.ensures.kept.on_volumes
    (λ world. finish_event (g.R.Rules.meaning world.rules) world c.args.claim)

pub append-appended-requires-clause-due : goal.append-appended-requires-clause-due
append-appended-requires-clause-due g c =
    let now = c.args.self.now in
    let rules = g.R.Rules.meaning c.args.self.now.world.rules in
    let is = subst (λ k. IsLandscape g.R.Rules.meaning k.world) c.self.view_is c.self.invariant in
    let does = c.in-Ok.ensures.appends in
    subst (λ k. IsDue g.R.Rules.meaning g.A.Application.goes_with k c.args.held.system c.in-Ok.next [] (Some c.args.held.number) c.args.extra)
    (sym c.self.view_is)
    (record {
      event = event.Finish c.args.held.number;
      appends = does;
      commits = event-none_more rules (g.met.R.Rules.lawful c.args.self.now.world.rules) c.args.self.now.world is.safe is.writable
          (event.Finish c.args.held.number)
          c.args.held.system c.in-Ok.next (Some c.args.held.number) does c.in-Ok.ensures.plain;
      goes = c.requires.goes (at c.args.held.system c.in-Ok.next)
          (executed-record rules c.args.self.now.world c.args.claim c.args.held c.requires.holds c.in-Ok.next does);
    })

pub returns-clause-ends : goal.returns-clause-ends
returns-clause-ends g c =
    let rules = g.R.Rules.meaning c.args.self.now.world.rules in
    let disk = g.V.Volumes.disk in
    subst (FinishedAs rules disk c.args.self.now c.append-appended.new.kept c.args.claim) (sym c.finished.ensures)
    (executed-as rules disk c.args.self.now c.append-appended.new.kept c.args.claim c.args.held c.requires.holds c.in-Ok.next c.append-appended.result
    (subst (λ k. EndsSo (g.R.Rules.meaning k.world.rules) disk k c.append-appended.new.kept c.args.held.system c.in-Ok.next
    (Some c.args.held.number) c.append-appended.result)
    c.self.view_is c.append-appended.ensures.ends)
    (record { tid = c.args.held.tid }) c.requires.holds.its c.requires.offers c.in-Ok.ensures.appends)

pub returns-clause-disk : goal.returns-clause-disk
returns-clause-disk g c =
    let rules = g.R.Rules.meaning c.args.self.now.world.rules in
    let disk = g.V.Volumes.disk in
    disk-some disk c.args.self.now c.append-appended.new.kept _ (at c.args.held.system c.in-Ok.next)
    (ap (λ b. record_of rules c.args.self.now.world (cond b (event.Finish c.args.claim.number) (event.Fail c.args.claim.number))) c.requires.offers
    ∙ executed-record rules c.args.self.now.world c.args.claim c.args.held c.requires.holds c.in-Ok.next c.in-Ok.ensures.appends)
    (subst (λ k. WritesOnly disk k c.append-appended.new.kept (at c.args.held.system c.in-Ok.next)) c.self.view_is
    c.append-appended.ensures.disk)
