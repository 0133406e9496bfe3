use Rattle.std.proofs.Common.{Some, [], cond, refl, sym, ap, subst, ◌∙◌}
use Rattle.unit_core.specs.declared.records.Record.TheVariants as log
use Rattle.trfc_protocol.specs.declared.event.Event.TheVariants as event
use Rattle.trfc_protocol.specs.RecordOf.{record_of}
use Rattle.trfc_protocol.specs.Worlds.{log_of}
use Rattle.unit_landscape.specs.Kept.{IsLandscape}
use Rattle.unit_landscape.specs.Writes.{WritesOnly}
use Rattle.unit_landscape.specs.Calls.{FinishedAs}
use Rattle.unit_landscape.specs.Appending.{at, IsDue, EndsSo}
use Rattle.unit_landscape.proofs.HappenedLemmas.{disk-some}
use Rattle.unit_landscape.proofs.EventLemmas.{event-none_more}
use Rattle.unit_landscape.proofs.FinishingLemmas.{failing, failed-as, failed-record}
use Rattle.unit_landscape.proofs.landscape.UnitLandscape.fail.Goals as goal

pub append-appended-requires-clause-due : goal.append-appended-requires-clause-due
append-appended-requires-clause-due g c =
    let rules = g.R.Rules.meaning c.args.self.now.world.rules in
    let lawful = g.met.R.Rules.lawful c.args.self.now.world.rules in
    let is = subst (λ k. IsLandscape g.R.Rules.meaning k.world) c.self.view_is c.self.invariant in
    let next = log.Fail c.args.held.tid in
    let does = failing rules lawful c.args.self.now.world is.safe c.args.claim c.args.held c.requires.holds c.requires.offers in
    subst (λ k. IsDue g.R.Rules.meaning g.A.Application.goes_with k c.args.held.system (log.Fail c.args.held.tid) [] (Some c.args.held.number) c.nothing.result)
    (sym c.self.view_is)
    (record {
      event = event.Fail c.args.held.number;
      appends = does;
      commits = event-none_more rules lawful c.args.self.now.world is.safe is.writable (event.Fail c.args.held.number)
          c.args.held.system (log.Fail c.args.held.tid) (Some c.args.held.number) does refl;
      goes = λ its there. c.nothing.ensures its.application (log_of c.args.self.now.world c.args.held.system) (log.Fail c.args.held.tid) refl;
    })

pub returns-clause-ends : goal.returns-clause-ends
returns-clause-ends g c =
    let rules = g.R.Rules.meaning c.args.self.now.world.rules in
    let lawful = g.met.R.Rules.lawful c.args.self.now.world.rules in
    let disk = g.V.Volumes.disk in
    let is = subst (λ k. IsLandscape g.R.Rules.meaning k.world) c.self.view_is c.self.invariant in
    subst (FinishedAs rules disk c.args.self.now c.append-appended.new.kept c.args.claim) (sym c.finished.ensures)
    (failed-as rules disk c.args.self.now c.append-appended.new.kept c.args.claim c.args.held c.requires.holds
    (log.Fail c.args.held.tid) c.append-appended.result
    (subst (λ k. EndsSo (g.R.Rules.meaning k.world.rules) disk k c.append-appended.new.kept c.args.held.system (log.Fail c.args.held.tid)
    (Some c.args.held.number)
    c.append-appended.result) c.self.view_is c.append-appended.ensures.ends)
    c.requires.offers (failing rules lawful c.args.self.now.world is.safe c.args.claim c.args.held c.requires.holds c.requires.offers))

pub returns-clause-disk : goal.returns-clause-disk
returns-clause-disk g c =
    let rules = g.R.Rules.meaning c.args.self.now.world.rules in
    let lawful = g.met.R.Rules.lawful c.args.self.now.world.rules in
    let is = subst (λ k. IsLandscape g.R.Rules.meaning k.world) c.self.view_is c.self.invariant in
    let disk = g.V.Volumes.disk in
    disk-some disk c.args.self.now c.append-appended.new.kept _ (at c.args.held.system (log.Fail c.args.held.tid))
    (ap (λ b. record_of rules c.args.self.now.world (cond b (event.Finish c.args.claim.number) (event.Fail c.args.claim.number))) c.requires.offers
    ∙ failed-record rules c.args.self.now.world c.args.claim c.args.held c.requires.holds (log.Fail c.args.held.tid)
    (failing rules lawful c.args.self.now.world is.safe c.args.claim c.args.held c.requires.holds c.requires.offers))
    (subst (λ k. WritesOnly disk k c.append-appended.new.kept (at c.args.held.system (log.Fail c.args.held.tid))) c.self.view_is
    c.append-appended.ensures.disk)
