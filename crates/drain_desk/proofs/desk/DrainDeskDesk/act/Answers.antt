use Rattle.std.specs.Prelude.{IfSome}
use Rattle.std.proofs.Common.{◌+◌, sym, ap, subst, ◌∙◌}
use Rattle.landscape.specs.Working.{IsPreparedFor}
use Rattle.unit_works.specs.Events.{is_work}
use Rattle.unit_works.proofs.WorkedLemmas.{part}
use Rattle.drain_desk.specs.Work.{tid_of}
use Rattle.drain_desk.proofs.DeskLemmas.{going-acted, going-keeps, going-short, keeps-going, work-may, work-ready}
use Rattle.drain_desk.proofs.desk.DrainDeskDesk.act.Goals as goal

pub perform-requires-clause-may : goal.perform-requires-clause-may
perform-requires-clause-may g c =
    let began = c.self.inside.origin in
    let going = keeps-going g.V.Volumes.disk began.landscape.value c.self.inside.parts.landscape began.wires.value c.self.inside.parts.wires
    c.self.inside.parts.finished
    c.self.inside.parts.is_short c.if-self.false c.self.invariant in
    work-may g.V.Volumes.disk began c.self.inside.parts.landscape c.self.inside.parts.wires c.self.inside.parts.finished c.work.inside.origin.value
    c.work.inside.offer.task
    (ap (λ w. w.origin) c.work.view_is ∙ c.requires.origin ∙ sym (ap (λ d. d.origin) c.self.view_is)) going c.work.invariant.may

pub perform-requires-clause-prepared : goal.perform-requires-clause-prepared
perform-requires-clause-prepared g c =
    let began = c.self.inside.origin in
    let going = keeps-going g.V.Volumes.disk began.landscape.value c.self.inside.parts.landscape began.wires.value c.self.inside.parts.wires
    c.self.inside.parts.finished
    c.self.inside.parts.is_short c.if-self.false c.self.invariant in
    work-ready g.V.Volumes.disk began c.self.inside.parts.landscape c.self.inside.parts.wires c.self.inside.parts.finished c.work.inside.origin.value
    c.work.inside.offer.task
    c.args.ready.prepared
    (ap (λ w. w.origin) c.work.view_is ∙ c.requires.origin ∙ sym (ap (λ d. d.origin) c.self.view_is)) going
    (subst (λ w. IfSome c.args.ready.prepared (λ its. IsPreparedFor w.origin.landscape.value.world (tid_of w.task) its.postings)) (sym c.work.view_is)
    c.requires.ready)

pub invariant_of-self-in-Ok : goal.invariant_of-self-in-Ok
invariant_of-self-in-Ok g c =
    let began = c.self.inside.origin in
    let going = keeps-going g.V.Volumes.disk began.landscape.value c.self.inside.parts.landscape began.wires.value c.self.inside.parts.wires
    c.self.inside.parts.finished
    c.self.inside.parts.is_short c.if-self.false c.self.invariant in
    going-keeps g.V.Volumes.disk began.landscape.value c.perform.new.landscape began.wires.value c.perform.new.wires
    (c.self.inside.parts.finished + c.in-Ok.finished)
    c.self.inside.parts.is_short c.if-self.false
    (going-acted g.V.Volumes.disk began.landscape.value c.self.inside.parts.landscape c.perform.new.landscape began.wires.value c.self.inside.parts.wires
    c.perform.new.wires c.self.inside.parts.finished c.in-Ok.finished going c.in-Ok.ensures.acted)

pub invariant_of-self : goal.invariant_of-self
invariant_of-self g c =
    let began = c.self.inside.origin in
    let going = keeps-going g.V.Volumes.disk began.landscape.value c.self.inside.parts.landscape began.wires.value c.self.inside.parts.wires
    c.self.inside.parts.finished
    c.self.inside.parts.is_short c.if-self.false c.self.invariant in
    let acted = c.in-Ok.ensures.acted in
    going-short g.V.Volumes.disk began.landscape.value c.self.inside.parts.landscape c.perform.new.landscape began.wires.value c.self.inside.parts.wires
    c.self.inside.parts.finished going (part g.V.Volumes.disk is_work c.self.inside.parts.landscape c.perform.new.landscape acted.went)

pub invariant_of-self-in-Err : goal.invariant_of-self-in-Err
invariant_of-self-in-Err g c =
    let began = c.self.inside.origin in
    let going = keeps-going g.V.Volumes.disk began.landscape.value c.self.inside.parts.landscape began.wires.value c.self.inside.parts.wires
    c.self.inside.parts.finished
    c.self.inside.parts.is_short c.if-self.false c.self.invariant in
    going-short g.V.Volumes.disk began.landscape.value c.self.inside.parts.landscape c.perform.new.landscape began.wires.value c.self.inside.parts.wires
    c.self.inside.parts.finished going c.in-Err.ensures.acted
