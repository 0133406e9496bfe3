use Rattle.std.specs.Prelude.{IfOk, OnErr}
use Rattle.std.proofs.Common.{None, [], refl, sym, subst}
use Rattle.unit_core.specs.declared.records.Record.TheVariants as log
use Rattle.trfc_protocol.specs.declared.event.Event.TheVariants as event
use Rattle.trfc_protocol.specs.Worlds.{log_of}
use Rattle.unit_landscape.specs.Kept.{IsLandscape}
use Rattle.unit_landscape.specs.Writes.{WritesOnly}
use Rattle.unit_landscape.specs.Ends.{IsShort}
use Rattle.unit_landscape.specs.Calls.{ConfirmedAs}
use Rattle.unit_landscape.specs.Appending.{at, IsDue, EndsSo}
use Rattle.unit_landscape.proofs.HappenedLemmas.{disk-some}
use Rattle.unit_landscape.proofs.EventLemmas.{event-none_more}
use Rattle.unit_landscape.proofs.ConfirmingLemmas.{forget-appends, confirmed-as}
use Rattle.unit_landscape.proofs.landscape.UnitLandscape.forget.Goals as goal

pub append-requires-clause-due : goal.append-requires-clause-due
append-requires-clause-due g c =
    let rules = g.R.Rules.meaning c.args.self.now.world.rules in
    let lawful = g.met.R.Rules.lawful c.args.self.now.world.rules in
    let is = subst (λ k. IsLandscape g.R.Rules.meaning k.world) c.self.view_is c.self.invariant in
    let does = forget-appends rules lawful c.args.self.now.world is.safe c.args.tid c.args.receiver c.requires in
    subst (λ k. IsDue g.R.Rules.meaning g.A.Application.goes_with k c.args.receiver (log.Forget c.args.tid) [] None c.nothing.result) (sym c.self.view_is)
    (record {
      event = event.Confirm c.args.tid;
      appends = does;
      commits = event-none_more rules lawful c.args.self.now.world is.safe is.writable (event.Confirm c.args.tid) c.args.receiver
          (log.Forget c.args.tid) None does refl;
      goes = λ its there. c.nothing.ensures its.application (log_of c.args.self.now.world c.args.receiver) (log.Forget c.args.tid) refl;
    })

pub returns-clause-event : goal.returns-clause-event
returns-clause-event g c =
    let rules = g.R.Rules.meaning c.args.self.now.world.rules in
    let is = subst (λ k. IsLandscape g.R.Rules.meaning k.world) c.self.view_is c.self.invariant in
    subst (λ r. IfOk r (ConfirmedAs rules g.V.Volumes.disk c.args.self.now c.append.new.kept c.args.tid)) (sym c.confirmed.ensures)
    (confirmed-as rules (g.met.R.Rules.lawful c.args.self.now.world.rules) g.V.Volumes.disk c.args.self.now c.append.new.kept c.args.tid c.args.receiver
    c.append.result is.safe c.requires
    (subst (λ k. EndsSo (g.R.Rules.meaning k.world.rules) g.V.Volumes.disk k c.append.new.kept c.args.receiver (log.Forget c.args.tid) None c.append.result)
    c.self.view_is c.append.ensures.ends)).0

pub returns-clause-short : goal.returns-clause-short
returns-clause-short g c =
    let rules = g.R.Rules.meaning c.args.self.now.world.rules in
    let is = subst (λ k. IsLandscape g.R.Rules.meaning k.world) c.self.view_is c.self.invariant in
    subst (λ r. OnErr r (IsShort rules g.V.Volumes.disk c.args.self.now c.append.new.kept (event.Confirm c.args.tid))) (sym c.confirmed.ensures)
    (confirmed-as rules (g.met.R.Rules.lawful c.args.self.now.world.rules) g.V.Volumes.disk c.args.self.now c.append.new.kept c.args.tid c.args.receiver
    c.append.result is.safe c.requires
    (subst (λ k. EndsSo (g.R.Rules.meaning k.world.rules) g.V.Volumes.disk k c.append.new.kept c.args.receiver (log.Forget c.args.tid) None c.append.result)
    c.self.view_is c.append.ensures.ends)).1

pub returns-clause-disk : goal.returns-clause-disk
returns-clause-disk g c =
    let rules = g.R.Rules.meaning c.args.self.now.world.rules in
    let is = subst (λ k. IsLandscape g.R.Rules.meaning k.world) c.self.view_is c.self.invariant in
    let does = forget-appends rules (g.met.R.Rules.lawful c.args.self.now.world.rules) c.args.self.now.world is.safe c.args.tid c.args.receiver c.requires in
    disk-some g.V.Volumes.disk c.args.self.now c.append.new.kept _
    (at c.args.receiver (log.Forget c.args.tid)) does.writes
    (subst (λ k. WritesOnly g.V.Volumes.disk k c.append.new.kept
    (at c.args.receiver (log.Forget c.args.tid))) c.self.view_is c.append.ensures.disk)
