use Rattle.std.proofs.Common.{[], None, sym, subst}
use Rattle.trfc_protocol.specs.declared.event.Event.TheVariants as event
use Rattle.trfc_protocol.specs.declared.event.Action.TheVariants.{Append}
use Rattle.trfc_protocol.specs.Worlds.{log_of}
use Rattle.unit_landscape.specs.Kept.{IsLandscape}
use Rattle.unit_landscape.specs.Calls.{OperatedAs}
use Rattle.unit_landscape.specs.Writes.{WritesOnly}
use Rattle.unit_landscape.specs.Appending.{at, IsDue, EndsAs}
use Rattle.unit_landscape.proofs.HappenedLemmas.{disk-some}
use Rattle.unit_landscape.proofs.EventLemmas.{event-none_more}
use Rattle.unit_landscape.proofs.OperatingLemmas.{operators-plain, asked-record, asked-appends, operated-as}
use Rattle.unit_landscape.proofs.landscape.UnitLandscape.asked.Goals as goal

pub record-requires-clause-due : goal.record-requires-clause-due
record-requires-clause-due g c =
    let world = c.args.self.now.world in
    let rules = g.R.Rules.meaning c.args.self.now.world.rules in
    let is = subst (λ k. IsLandscape g.R.Rules.meaning k.world) c.self.view_is c.self.invariant in
    let does = asked-appends rules world c.args.system c.args.next c.requires.up c.requires.may c.requires.kind c.requires.silent in
    subst (λ k. IsDue g.R.Rules.meaning g.A.Application.goes_with k c.args.system c.args.next [] None c.nothing.result) (sym c.self.view_is)
    (record {
      event = event.Operator (Append c.args.system c.args.next);
      appends = does;
      commits = event-none_more rules (g.met.R.Rules.lawful c.args.self.now.world.rules) world is.safe is.writable
          (event.Operator (Append c.args.system c.args.next))
          c.args.system c.args.next None does (operators-plain c.args.next c.requires.kind);
      goes = λ its there. c.nothing.ensures its.application (log_of c.args.self.now.world c.args.system) c.args.next c.requires.silent;
    })

pub returns-clause-ends : goal.returns-clause-ends
returns-clause-ends g c =
    let rules = g.R.Rules.meaning c.args.self.now.world.rules in
    let world = c.args.self.now.world in
    subst (OperatedAs rules g.V.Volumes.disk c.args.self.now c.record.new.kept c.args.system c.args.next) (sym c.operated.ensures)
    (operated-as rules g.V.Volumes.disk c.args.self.now c.record.new.kept c.args.system c.args.next c.record.result c.requires.up c.requires.may
    (asked-record rules world c.args.system c.args.next c.requires.up c.requires.may c.requires.kind c.requires.silent)
    (subst (λ k. EndsAs (g.R.Rules.meaning k.world.rules) g.V.Volumes.disk k c.record.new.kept c.args.system c.args.next None c.record.result) c.self.view_is
    c.record.ensures.ends
    (event.Operator (Append c.args.system c.args.next))
    (asked-appends rules world c.args.system c.args.next c.requires.up c.requires.may c.requires.kind c.requires.silent)))

pub returns-clause-disk : goal.returns-clause-disk
returns-clause-disk g c =
    let rules = g.R.Rules.meaning c.args.self.now.world.rules in
    let disk = g.V.Volumes.disk in
    disk-some disk c.args.self.now c.record.new.kept _ (at c.args.system c.args.next)
    (asked-record rules c.args.self.now.world c.args.system c.args.next c.requires.up c.requires.may c.requires.kind c.requires.silent)
    (subst (λ k. WritesOnly disk k c.record.new.kept (at c.args.system c.args.next)) c.self.view_is c.record.ensures.disk)
