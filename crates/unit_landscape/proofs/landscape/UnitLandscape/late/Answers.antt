use Rattle.std.proofs.Common.{◌≡◌, false, inl, refl, sym, subst, ◌∙◌}
use Rattle.trfc_protocol.specs.declared.answer.Answer.TheVariants as answer
use Rattle.trfc_protocol.specs.declared.held.HeldKind.TheVariants.{Direct}
use Rattle.trfc_protocol.specs.Worlds.{is_claimed}
use Rattle.unit_landscape.specs.Kept.{IsLandscape}
use Rattle.unit_landscape.specs.Writes.{DiskAs}
use Rattle.unit_landscape.specs.Late.{late_record, LateAs}
use Rattle.unit_landscape.proofs.CrashLemmas.{leaves-seen}
use Rattle.unit_landscape.proofs.LateLemmas.{late_may_arrive}
use Rattle.unit_landscape.proofs.LateEndsLemmas.{late-still, late-its, late-comes, comes-arrives, arrived-still, not_busy}
use Rattle.unit_landscape.proofs.landscape.UnitLandscape.late.Goals as goal

pub returns-in-Err-clause-disk : goal.returns-in-Err-clause-disk
returns-in-Err-clause-disk g c =
    subst (λ k. DiskAs g.V.Volumes.disk k k
    (late_record (g.R.Rules.meaning k.world.rules) k.world c.args.tid)) c.self.view_is
    (late-still g.V.Volumes.disk c.self.inside.kept g.met.V.Volumes.only_now
    c.world.ensures.kept.on_volumes (g.R.Rules.meaning c.self.inside.kept.world.rules) c.args.tid)

pub answer_to-requires-clause-may : goal.answer_to-requires-clause-may
answer_to-requires-clause-may g c =
    let world = c.args.self.now.world in
    let rules = g.R.Rules.meaning c.args.self.now.world.rules in
    let lawful = g.met.R.Rules.lawful c.args.self.now.world.rules in
    let is = subst (λ k. IsLandscape g.R.Rules.meaning k.world) c.self.view_is c.self.invariant in
    late_may_arrive rules lawful world is.safe c.args.tid c.in-Ok.unit c.in-Ok.ensures

pub take_late-requires : goal.take_late-requires
take_late-requires g c =
    let world = c.args.self.now.world in
    let rules = g.R.Rules.meaning c.args.self.now.world.rules in
    let lawful = g.met.R.Rules.lawful c.args.self.now.world.rules in
    let is = subst (λ k. IsLandscape g.R.Rules.meaning k.world) c.self.view_is c.self.invariant in
    late-comes rules lawful world is.safe c.args.tid c.in-Ok.unit answer.New c.in-Ok.ensures (sym c.answer_to.ensures ∙ c.in-New.is)

pub run_late-requires-clause-comes : goal.run_late-requires-clause-comes
run_late-requires-clause-comes g c =
    let world = c.args.self.now.world in
    let rules = g.R.Rules.meaning c.args.self.now.world.rules in
    let lawful = g.met.R.Rules.lawful c.args.self.now.world.rules in
    let is = subst (λ k. IsLandscape g.R.Rules.meaning k.world) c.self.view_is c.self.invariant in
    late-comes rules lawful world is.safe c.args.tid c.in-Ok.unit answer.Run c.in-Ok.ensures (sym c.answer_to.ensures ∙ c.in-Run.is)

pub unreachable-requires : goal.unreachable-requires
unreachable-requires g c =
    let world = c.args.self.now.world in
    let rules = g.R.Rules.meaning c.args.self.now.world.rules in
    let lawful = g.met.R.Rules.lawful c.args.self.now.world.rules in
    let is = subst (λ k. IsLandscape g.R.Rules.meaning k.world) c.self.view_is c.self.invariant in
    not_busy rules world c.in-Ok.unit
    (subst (λ t. is_claimed Direct t c.args.self.now.world.claims ≡ false)
    (sym (late-its rules lawful world is.safe c.args.tid c.in-Ok.unit c.in-Ok.ensures)) c.requires.alone)
    (sym c.answer_to.ensures ∙ c.in-Busy.is)

pub returns-in-New-clause-ends : goal.returns-in-New-clause-ends
returns-in-New-clause-ends g c =
    let world = c.args.self.now.world in
    let rules = g.R.Rules.meaning c.args.self.now.world.rules in
    let lawful = g.met.R.Rules.lawful c.args.self.now.world.rules in
    let is = subst (λ k. IsLandscape g.R.Rules.meaning k.world) c.self.view_is c.self.invariant in
    subst (λ t. LateAs rules g.V.Volumes.disk c.args.self.now c.take_late.new.self t c.take_late.result)
    (late-its rules lawful world is.safe c.args.tid c.in-Ok.unit c.in-Ok.ensures) c.take_late.ensures.ends

pub returns-in-New-clause-disk : goal.returns-in-New-clause-disk
returns-in-New-clause-disk g c =
    let world = c.args.self.now.world in
    let rules = g.R.Rules.meaning c.args.self.now.world.rules in
    let lawful = g.met.R.Rules.lawful c.args.self.now.world.rules in
    let is = subst (λ k. IsLandscape g.R.Rules.meaning k.world) c.self.view_is c.self.invariant in
    subst (λ t. DiskAs g.V.Volumes.disk c.args.self.now c.take_late.new.self
    (late_record rules world t))
    (late-its rules lawful world is.safe c.args.tid c.in-Ok.unit c.in-Ok.ensures) c.take_late.ensures.disk

pub returns-in-Run-clause-ends : goal.returns-in-Run-clause-ends
returns-in-Run-clause-ends g c =
    let world = c.args.self.now.world in
    let rules = g.R.Rules.meaning c.args.self.now.world.rules in
    let lawful = g.met.R.Rules.lawful c.args.self.now.world.rules in
    let is = subst (λ k. IsLandscape g.R.Rules.meaning k.world) c.self.view_is c.self.invariant in
    subst (λ t. LateAs rules g.V.Volumes.disk c.args.self.now c.run_late.new.self t c.run_late.result)
    (late-its rules lawful world is.safe c.args.tid c.in-Ok.unit c.in-Ok.ensures) c.run_late.ensures.ends

pub returns-in-Run-clause-disk : goal.returns-in-Run-clause-disk
returns-in-Run-clause-disk g c =
    let world = c.args.self.now.world in
    let rules = g.R.Rules.meaning c.args.self.now.world.rules in
    let lawful = g.met.R.Rules.lawful c.args.self.now.world.rules in
    let is = subst (λ k. IsLandscape g.R.Rules.meaning k.world) c.self.view_is c.self.invariant in
    subst (λ t. DiskAs g.V.Volumes.disk c.args.self.now c.run_late.new.self
    (late_record rules world t))
    (late-its rules lawful world is.safe c.args.tid c.in-Ok.unit c.in-Ok.ensures) c.run_late.ensures.disk

pub returns-in-Known-clause-ends : goal.returns-in-Known-clause-ends
returns-in-Known-clause-ends g c =
    let world = c.args.self.now.world in
    let rules = g.R.Rules.meaning c.args.self.now.world.rules in
    let lawful = g.met.R.Rules.lawful c.args.self.now.world.rules in
    let is = subst (λ k. IsLandscape g.R.Rules.meaning k.world) c.self.view_is c.self.invariant in
    let given = sym c.answer_to.ensures ∙ c.in-Known.is in
    let arrives = comes-arrives rules lawful world is.safe c.in-Ok.unit answer.Known
    (late-comes rules lawful world is.safe c.args.tid c.in-Ok.unit answer.Known c.in-Ok.ensures given) in
    (c.in-Ok.unit, c.in-Ok.ensures, ((given, arrived-still rules g.V.Volumes.disk c.args.self.now c.in-Ok.unit answer.Known arrives refl refl), refl))

pub returns-in-SysFail-clause-ends : goal.returns-in-SysFail-clause-ends
returns-in-SysFail-clause-ends g c =
    let world = c.args.self.now.world in
    let rules = g.R.Rules.meaning c.args.self.now.world.rules in
    let lawful = g.met.R.Rules.lawful c.args.self.now.world.rules in
    let is = subst (λ k. IsLandscape g.R.Rules.meaning k.world) c.self.view_is c.self.invariant in
    let given = sym c.answer_to.ensures ∙ c.in-SysFail.is in
    let arrives = comes-arrives rules lawful world is.safe c.in-Ok.unit answer.SysFail
    (late-comes rules lawful world is.safe c.args.tid c.in-Ok.unit answer.SysFail c.in-Ok.ensures given) in
    (c.in-Ok.unit, c.in-Ok.ensures, ((given, arrived-still rules g.V.Volumes.disk c.args.self.now c.in-Ok.unit answer.SysFail arrives refl refl), refl))

pub returns-in-Down-clause-ends : goal.returns-in-Down-clause-ends
returns-in-Down-clause-ends g c =
    let world = c.args.self.now.world in
    let rules = g.R.Rules.meaning c.args.self.now.world.rules in
    let lawful = g.met.R.Rules.lawful c.args.self.now.world.rules in
    let is = subst (λ k. IsLandscape g.R.Rules.meaning k.world) c.self.view_is c.self.invariant in
    let given = sym c.answer_to.ensures ∙ c.in-Down.is in
    let arrives = comes-arrives rules lawful world is.safe c.in-Ok.unit answer.Down
    (late-comes rules lawful world is.safe c.args.tid c.in-Ok.unit answer.Down c.in-Ok.ensures given) in
    (c.in-Ok.unit, c.in-Ok.ensures, inl ((given, arrived-still rules g.V.Volumes.disk c.args.self.now c.in-Ok.unit answer.Down arrives refl refl), refl))

pub returns-in-Err-clause-sound : goal.returns-in-Err-clause-sound
returns-in-Err-clause-sound g c =
    leaves-seen g.R.Rules.meaning g.met.R.Rules.lawful g.V.Volumes.disk g.met.V.Volumes.only_now c.self.inside.kept c.args.self.now c.self.view_is
    c.self.invariant c.world.ensures.kept.on_volumes

pub returns-in-Known-clause-sound : goal.returns-in-Known-clause-sound
returns-in-Known-clause-sound g c =
    leaves-seen g.R.Rules.meaning g.met.R.Rules.lawful g.V.Volumes.disk g.met.V.Volumes.only_now c.self.inside.kept c.args.self.now c.self.view_is
    c.self.invariant c.world.ensures.kept.on_volumes

pub returns-in-SysFail-clause-sound : goal.returns-in-SysFail-clause-sound
returns-in-SysFail-clause-sound g c =
    leaves-seen g.R.Rules.meaning g.met.R.Rules.lawful g.V.Volumes.disk g.met.V.Volumes.only_now c.self.inside.kept c.args.self.now c.self.view_is
    c.self.invariant c.world.ensures.kept.on_volumes

pub returns-in-Down-clause-sound : goal.returns-in-Down-clause-sound
returns-in-Down-clause-sound g c =
    leaves-seen g.R.Rules.meaning g.met.R.Rules.lawful g.V.Volumes.disk g.met.V.Volumes.only_now c.self.inside.kept c.args.self.now c.self.view_is
    c.self.invariant c.world.ensures.kept.on_volumes
