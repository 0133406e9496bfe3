use Rattle.std.proofs.Common.{[], None, refl, sym, subst}
use Rattle.unit_core.specs.declared.records.Record.TheVariants as log
use Rattle.trfc_protocol.specs.declared.answer.Answer.TheVariants as answer
use Rattle.trfc_protocol.specs.declared.event.Event.TheVariants as event
use Rattle.trfc_protocol.specs.Worlds.{log_of}
use Rattle.unit_landscape.specs.Crashes.{LeavesSound}
use Rattle.unit_landscape.specs.Kept.{IsLandscape}
use Rattle.unit_landscape.specs.Appending.{IsDue, EndsAs}
use Rattle.unit_landscape.specs.Late.{LateAs}
use Rattle.unit_landscape.proofs.EventLemmas.{event-none_more}
use Rattle.unit_landscape.proofs.ArrivingLemmas.{accept-appends}
use Rattle.unit_landscape.proofs.LateEndsLemmas.{comes-arrives, taken-as}
use Rattle.unit_landscape.proofs.landscape.UnitLandscape.take_late.Goals as goal

pub record-requires-clause-due : goal.record-requires-clause-due
record-requires-clause-due g c =
    let world = c.args.self.now.world in
    let rules = g.R.Rules.meaning c.args.self.now.world.rules in
    let lawful = g.met.R.Rules.lawful c.args.self.now.world.rules in
    let is = subst (λ k. IsLandscape g.R.Rules.meaning k.world) c.self.view_is c.self.invariant in
    let does = accept-appends rules world c.args.unit (comes-arrives rules lawful world is.safe c.args.unit answer.New c.requires) in
    subst (λ k. IsDue g.R.Rules.meaning g.A.Application.goes_with k c.args.unit.receiver (log.Accept c.args.unit) [] None c.nothing.result)
    (sym c.self.view_is)
    (record {
      event = event.Arrive c.args.unit.tid;
      appends = does;
      commits = event-none_more rules lawful world is.safe is.writable (event.Arrive c.args.unit.tid) c.args.unit.receiver
          (log.Accept c.args.unit) None does refl;
      goes = λ its there. c.nothing.ensures its.application (log_of c.args.self.now.world c.args.unit.receiver) (log.Accept c.args.unit) refl;
    })

pub returns-clause-ends : goal.returns-clause-ends
returns-clause-ends g c =
    let world = c.args.self.now.world in
    let rules = g.R.Rules.meaning c.args.self.now.world.rules in
    let lawful = g.met.R.Rules.lawful c.args.self.now.world.rules in
    let disk = g.V.Volumes.disk in
    let is = subst (λ k. IsLandscape g.R.Rules.meaning k.world) c.self.view_is c.self.invariant in
    subst (LateAs rules disk c.args.self.now c.record.new.kept c.args.unit.tid) (sym c.came_late.ensures)
    (taken-as rules disk c.args.self.now c.record.new.kept c.args.unit c.requires c.record.result
    (subst (λ k. EndsAs (g.R.Rules.meaning k.world.rules) disk k c.record.new.kept c.args.unit.receiver
    (log.Accept c.args.unit) None c.record.result) c.self.view_is
    c.record.ensures.ends (event.Arrive c.args.unit.tid)
    (accept-appends rules world c.args.unit (comes-arrives rules lawful world is.safe c.args.unit answer.New c.requires))))

pub returns-clause-sound : goal.returns-clause-sound
returns-clause-sound g c = λ tells.
    subst (λ k. LeavesSound g.R.Rules.meaning g.V.Volumes.disk k c.record.new.kept) c.self.view_is (c.record.ensures.sound tells)
