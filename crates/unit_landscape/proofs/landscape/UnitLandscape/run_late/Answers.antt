use Rattle.std.proofs.Common.{◌-◌, [], Some, refl, sym, ap, subst, ◌∙◌}
use Rattle.std.specs.Prelude.{slice_get}
use Rattle.unit_core.specs.declared.records.Record.TheVariants as log
use Rattle.trfc_protocol.specs.declared.answer.Answer.TheVariants as answer
use Rattle.trfc_protocol.specs.declared.event.Event.TheVariants as event
use Rattle.trfc_protocol.specs.Worlds.{log_of}
use Rattle.unit_landscape.specs.Crashes.{LeavesSound}
use Rattle.unit_landscape.specs.Kept.{IsLandscape}
use Rattle.unit_landscape.specs.Writes.{DiskAs}
use Rattle.unit_landscape.specs.Appending.{at, IsDue, EndsAs}
use Rattle.unit_landscape.specs.Ends.{AppendsAs}
use Rattle.unit_landscape.specs.Late.{ComesLate, late_record, LateAs}
use Rattle.unit_landscape.proofs.CrashLemmas.{leaves-same, leaves-seen}
use Rattle.unit_landscape.proofs.EventLemmas.{event-none_more}
use Rattle.unit_landscape.proofs.EndsLemmas.{landscape-step}
use Rattle.unit_landscape.proofs.ArrivingLemmas.{arrival-after}
use Rattle.unit_landscape.proofs.LateEndsLemmas.{late-still, comes-arrives, claimed_by, claimed-is, claimed-begun, run-appends, run-known, ran-as}
use Rattle.unit_landscape.proofs.landscape.UnitLandscape.run_late.Goals as goal

pub returns-in-Err-clause-disk : goal.returns-in-Err-clause-disk
returns-in-Err-clause-disk g c =
    let disk = g.V.Volumes.disk in
    let kept = c.self.inside.kept in
    let rules = g.R.Rules.meaning c.self.inside.kept.world.rules in
    subst (λ k. DiskAs disk k c.claim_direct.new.self
    (late_record (g.R.Rules.meaning k.world.rules) k.world c.args.unit.tid)) c.self.view_is
    (subst (λ k. DiskAs disk kept k (late_record rules kept.world c.args.unit.tid)) (sym c.in-Err.ensures.err)
    (late-still disk kept g.met.V.Volumes.only_now c.world.ensures.kept.on_volumes rules c.args.unit.tid))

pub record-appended-requires-clause-landscape : goal.record-appended-requires-clause-landscape
record-appended-requires-clause-landscape g c =
    let world = c.self.inside.kept.world in
    let rules = g.R.Rules.meaning c.self.inside.kept.world.rules in
    let comes = subst (λ k. ComesLate (g.R.Rules.meaning k.world.rules) k.world c.args.unit answer.Run) (sym c.self.view_is) c.requires.comes in
    landscape-step g.R.Rules.meaning g.met.R.Rules.lawful world c.claim_direct.new.self.world (event.Arrive c.args.unit.tid) c.self.invariant
    (c.in-Ok.ensures.world.1 ∙ sym (arrival-after rules world c.args.unit answer.Run
    (comes-arrives rules (g.met.R.Rules.lawful c.self.inside.kept.world.rules) world c.self.invariant.safe c.args.unit answer.Run comes)))

pub record-appended-requires-clause-due : goal.record-appended-requires-clause-due
record-appended-requires-clause-due g c =
    let kept = c.self.inside.kept in
    let world = c.self.inside.kept.world in
    let rules = g.R.Rules.meaning c.self.inside.kept.world.rules in
    let lawful = g.met.R.Rules.lawful c.self.inside.kept.world.rules in
    let unit = c.args.unit in
    let number = c.self.inside.kept.world.next_number in
    let meaning = g.R.Rules.meaning in
    let goes_with = g.A.Application.goes_with in
    let comes = subst (λ k. ComesLate (g.R.Rules.meaning k.world.rules) k.world c.args.unit answer.Run) (sym c.self.view_is) c.requires.comes in
    let mid_is = claimed-is kept unit c.claim_direct.new.self c.in-Ok.ensures.world.1 c.in-Ok.ensures.tables c.in-Ok.ensures.volumes in
    let is = subst (λ k. IsLandscape g.R.Rules.meaning k.world) mid_is
    (landscape-step g.R.Rules.meaning g.met.R.Rules.lawful world c.claim_direct.new.self.world (event.Arrive c.args.unit.tid) c.self.invariant
    (c.in-Ok.ensures.world.1 ∙ sym (arrival-after rules world unit answer.Run
    (comes-arrives rules lawful world c.self.invariant.safe unit answer.Run comes)))) in
    let does = run-appends kept unit rules lawful is.safe comes in
    subst (λ k. IsDue g.R.Rules.meaning g.A.Application.goes_with k c.args.unit.receiver (log.Direct c.args.unit) [] (Some c.in-Ok.number) c.args.extra)
    (sym mid_is)
    (subst (λ n. IsDue g.R.Rules.meaning g.A.Application.goes_with (claimed_by kept unit) c.args.unit.receiver (log.Direct c.args.unit) []
    (Some n) c.args.extra)
    (sym c.in-Ok.ensures.world.0)
    (record {
      event = event.Finish number;
      appends = does;
      commits = event-none_more rules lawful (claimed_by kept unit).world is.safe is.writable (event.Finish number) c.args.unit.receiver
          (log.Direct c.args.unit) (Some number) does refl;
      goes = λ its there.
          subst (λ k. g.A.Application.goes_with its.application (log_of k.world c.args.unit.receiver) (log.Direct c.args.unit) c.args.extra)
          (sym c.self.view_is)
          (c.requires.goes its (ap (λ k. slice_get k.tables (c.args.unit.receiver - 1)) (sym c.self.view_is) ∙ there));
    }))

pub give_back-requires-clause-known : goal.give_back-requires-clause-known
give_back-requires-clause-known g c =
    let kept = c.self.inside.kept in
    let world = c.self.inside.kept.world in
    let rules = g.R.Rules.meaning c.self.inside.kept.world.rules in
    let lawful = g.met.R.Rules.lawful c.self.inside.kept.world.rules in
    let disk = g.V.Volumes.disk in
    let unit = c.args.unit in
    let number = c.self.inside.kept.world.next_number in
    let last = c.record-appended.new.kept in
    let result = c.record-appended.result in
    let comes = subst (λ k. ComesLate (g.R.Rules.meaning k.world.rules) k.world c.args.unit answer.Run) (sym c.self.view_is) c.requires.comes in
    let arrives = comes-arrives rules lawful world c.self.invariant.safe unit answer.Run comes in
    let mid_is = claimed-is kept unit c.claim_direct.new.self c.in-Ok.ensures.world.1 c.in-Ok.ensures.tables c.in-Ok.ensures.volumes in
    let is = subst (λ k. IsLandscape g.R.Rules.meaning k.world) mid_is
    (landscape-step g.R.Rules.meaning g.met.R.Rules.lawful world c.claim_direct.new.self.world (event.Arrive c.args.unit.tid) c.self.invariant
    (c.in-Ok.ensures.world.1 ∙ sym (arrival-after rules world unit answer.Run arrives))) in
    let does = run-appends kept unit rules lawful is.safe comes in
    let ends = subst (λ n. EndsAs rules disk (claimed_by kept unit) last c.args.unit.receiver (log.Direct c.args.unit)
    (Some n) result) c.in-Ok.ensures.world.0
    (subst (λ k. EndsAs (g.R.Rules.meaning k.world.rules) disk k last c.args.unit.receiver (log.Direct c.args.unit) (Some c.in-Ok.number) result) mid_is
    c.record-appended.ensures.ends) in (
      kept,
      run-known g.R.Rules.meaning g.A.Application.stands rules disk kept last unit c.self.invariant c.world.ensures.kept.in_step (event.Finish number)
          (at c.args.unit.receiver (log.Direct c.args.unit)) result (ends (event.Finish number) does),
    )

pub returns-clause-ends : goal.returns-clause-ends
returns-clause-ends g c =
    let kept = c.self.inside.kept in
    let world = c.self.inside.kept.world in
    let rules = g.R.Rules.meaning c.self.inside.kept.world.rules in
    let lawful = g.met.R.Rules.lawful c.self.inside.kept.world.rules in
    let disk = g.V.Volumes.disk in
    let unit = c.args.unit in
    let number = c.self.inside.kept.world.next_number in
    let last = c.record-appended.new.kept in
    let result = c.record-appended.result in
    let comes = subst (λ k. ComesLate (g.R.Rules.meaning k.world.rules) k.world c.args.unit answer.Run) (sym c.self.view_is) c.requires.comes in
    let arrives = comes-arrives rules lawful world c.self.invariant.safe unit answer.Run comes in
    let mid_is = claimed-is kept unit c.claim_direct.new.self c.in-Ok.ensures.world.1 c.in-Ok.ensures.tables c.in-Ok.ensures.volumes in
    let is = subst (λ k. IsLandscape g.R.Rules.meaning k.world) mid_is
    (landscape-step g.R.Rules.meaning g.met.R.Rules.lawful world c.claim_direct.new.self.world (event.Arrive c.args.unit.tid) c.self.invariant
    (c.in-Ok.ensures.world.1 ∙ sym (arrival-after rules world unit answer.Run arrives))) in
    let does = run-appends kept unit rules lawful is.safe comes in
    let ends = subst (λ n. EndsAs rules disk (claimed_by kept unit) last c.args.unit.receiver (log.Direct c.args.unit)
    (Some n) result) c.in-Ok.ensures.world.0
    (subst (λ k. EndsAs (g.R.Rules.meaning k.world.rules) disk k last c.args.unit.receiver (log.Direct c.args.unit) (Some c.in-Ok.number) result) mid_is
    c.record-appended.ensures.ends) in
    subst (λ k. LateAs (g.R.Rules.meaning k.world.rules) disk k c.give_back.new.kept c.args.unit.tid c.came_late.result) c.self.view_is
    (subst (LateAs rules disk kept c.give_back.new.kept c.args.unit.tid) (sym c.came_late.ensures)
    (ran-as rules lawful disk kept last c.give_back.new.kept c.self.invariant.safe unit comes result
    (subst (λ k. AppendsAs rules disk k last (event.Finish number) (at c.args.unit.receiver (log.Direct c.args.unit)) result)
    (claimed-begun kept unit rules arrives)
    (ends (event.Finish number) does))
    (c.give_back.ensures.gives kept
    (run-known g.R.Rules.meaning g.A.Application.stands rules disk kept last unit c.self.invariant c.world.ensures.kept.in_step (event.Finish number)
    (at c.args.unit.receiver (log.Direct c.args.unit)) result (ends (event.Finish number) does)))))

pub returns-in-Err-clause-sound : goal.returns-in-Err-clause-sound
returns-in-Err-clause-sound g c = λ tells.
    subst (LeavesSound g.R.Rules.meaning g.V.Volumes.disk c.args.self.now) (sym (c.in-Err.ensures.err ∙ c.self.view_is))
    (leaves-seen g.R.Rules.meaning g.met.R.Rules.lawful g.V.Volumes.disk g.met.V.Volumes.only_now c.self.inside.kept c.args.self.now c.self.view_is
    c.self.invariant c.world.ensures.kept.on_volumes tells)

pub returns-clause-sound : goal.returns-clause-sound
returns-clause-sound g c = λ tells.
    let kept = c.self.inside.kept in
    let mid_is = claimed-is kept c.args.unit c.claim_direct.new.self c.in-Ok.ensures.world.1 c.in-Ok.ensures.tables c.in-Ok.ensures.volumes in
    subst (λ k. LeavesSound g.R.Rules.meaning g.V.Volumes.disk k c.give_back.new.kept) c.self.view_is
    (leaves-same g.R.Rules.meaning g.V.Volumes.disk kept (claimed_by kept c.args.unit) c.record-appended.new.kept c.give_back.new.kept refl refl refl
    c.give_back.ensures.volumes.vols
    (subst (λ k. LeavesSound g.R.Rules.meaning g.V.Volumes.disk k c.record-appended.new.kept) mid_is (c.record-appended.ensures.sound tells)))
