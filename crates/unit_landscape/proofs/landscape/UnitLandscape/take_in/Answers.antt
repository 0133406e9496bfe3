use Rattle.std.specs.Prelude.{IfOk, OnErr}
use Rattle.std.proofs.Common.{◌≡◌, None, inr, refl, false, sym, subst}
use Rattle.trfc_protocol.specs.declared.answer.Answer.TheVariants as answer
use Rattle.trfc_protocol.specs.declared.event.Event.TheVariants as event
use Rattle.trfc_protocol.specs.Legal.{is_commit}
use Rattle.trfc_protocol.specs.Worlds.{log_of}
use Rattle.system_tables.specs.Concerns.{concerns_application}
use Rattle.unit_landscape.specs.Writes.{Appends}
use Rattle.unit_landscape.specs.Ends.{IsShort}
use Rattle.unit_landscape.specs.Calls.{Arrived}
use Rattle.unit_landscape.specs.Appending.{Arrives}
use Rattle.unit_landscape.proofs.HappenedLemmas.{disk-seen}
use Rattle.unit_landscape.proofs.EventLemmas.{event-none_more}
use Rattle.unit_landscape.proofs.EndsLemmas.{was-written, was-fallen, was-short}
use Rattle.unit_landscape.proofs.ArrivingLemmas.{accept-appends}
use Rattle.unit_landscape.proofs.landscape.UnitLandscape.take_in.Goals.{in-Ok-Written, in-Ok-Fallen, in-Err}
use Rattle.unit_landscape.proofs.landscape.UnitLandscape.take_in.Goals as goal

pub returns-in_err-next-clause-disk : goal.returns-in_err-next-clause-disk
returns-in_err-next-clause-disk g c =
    disk-seen g.V.Volumes.disk g.met.V.Volumes.only_now
    g.R.Rules.meaning g.met.R.Rules.lawful c.self.inside.kept c.args.self.now c.self.view_is c.self.invariant c.world.ensures.kept.on_volumes
    (λ world. event.Arrive c.args.unit.now.tid)

pub append-requires-clause-due : goal.append-requires-clause-due
append-requires-clause-due g c =
    let world = c.self.inside.kept.world in
    let rules = g.R.Rules.meaning c.self.inside.kept.world.rules in
    let arrives = subst (λ k. Arrives (g.R.Rules.meaning k.world.rules) k.world c.args.unit.now answer.New) (sym c.self.view_is) c.requires in
    let does = subst (λ next. Appends rules world c.args.unit.now.receiver next None (event.Arrive c.args.unit.now.tid)) (sym c.in_ok-next.ensures)
    (accept-appends rules world c.args.unit.now arrives) in
    record {
      event = event.Arrive c.args.unit.now.tid;
      appends = does;
      commits = event-none_more rules (g.met.R.Rules.lawful c.self.inside.kept.world.rules) world c.self.invariant.safe c.self.invariant.writable
          (event.Arrive c.args.unit.now.tid) c.args.unit.now.receiver c.in_ok-next.next None does
          (subst (λ next. is_commit next ≡ false) (sym c.in_ok-next.ensures) refl);
      goes = λ its at. c.nothing.ensures its.application (log_of c.self.inside.kept.world c.args.unit.now.receiver) c.in_ok-next.next
          (subst (λ next. concerns_application next ≡ false) (sym c.in_ok-next.ensures) refl);
    }

pub returns-clause-event : goal.returns-clause-event
returns-clause-event g c =
    let disk = g.V.Volumes.disk in
    let world = c.self.inside.kept.world in
    let rules = g.R.Rules.meaning c.self.inside.kept.world.rules in
    let arrive = event.Arrive c.args.unit.now.tid in
    let arrives = subst (λ k. Arrives (g.R.Rules.meaning k.world.rules) k.world c.args.unit.now answer.New) (sym c.self.view_is) c.requires in
    let does = subst (λ next. Appends rules world c.args.unit.now.receiver next None (event.Arrive c.args.unit.now.tid)) (sym c.in_ok-next.ensures)
    (accept-appends rules world c.args.unit.now arrives) in
    subst (λ k. IfOk c.match-append.result (Arrived (g.R.Rules.meaning k.world.rules) disk k c.append.new.kept c.args.unit.now)) c.self.view_is
    (elim c.match-append.branch [
      | in-Ok-Written w ↦ subst (λ r. IfOk r (Arrived rules disk c.self.inside.kept c.append.new.kept c.args.unit.now)) (sym w.result-is) (
        (
          arrives.answer,
          was-written rules disk c.self.inside.kept c.append.new.kept c.args.unit.now.receiver c.in_ok-next.next None arrive does c.append.result
              c.append.ensures.ends w.in-Ok-Written.field-0 w.in-Ok-Written.is w.in-Ok-Written.field-0-is,
        ),
        refl,
      )
      | in-Ok-Fallen w ↦ subst (λ r. IfOk r (Arrived rules disk c.self.inside.kept c.append.new.kept c.args.unit.now)) (sym w.result-is)
          (inr (
            arrives.answer,
            was-fallen rules disk c.self.inside.kept c.append.new.kept c.args.unit.now.receiver c.in_ok-next.next None arrive does c.append.result
                c.append.ensures.ends w.in-Ok-Fallen.field-0 w.in-Ok-Fallen.is w.in-Ok-Fallen.field-0-is,
          ))
      | in-Err w ↦ subst (λ r. IfOk r (Arrived rules disk c.self.inside.kept c.append.new.kept c.args.unit.now)) (sym w.result-is) tt
    ])

pub returns-clause-short : goal.returns-clause-short
returns-clause-short g c =
    let disk = g.V.Volumes.disk in
    let world = c.self.inside.kept.world in
    let rules = g.R.Rules.meaning c.self.inside.kept.world.rules in
    let arrive = event.Arrive c.args.unit.now.tid in
    let arrives = subst (λ k. Arrives (g.R.Rules.meaning k.world.rules) k.world c.args.unit.now answer.New) (sym c.self.view_is) c.requires in
    let does = subst (λ next. Appends rules world c.args.unit.now.receiver next None (event.Arrive c.args.unit.now.tid)) (sym c.in_ok-next.ensures)
    (accept-appends rules world c.args.unit.now arrives) in
    subst (λ k. OnErr c.match-append.result (IsShort (g.R.Rules.meaning k.world.rules) disk k c.append.new.kept arrive)) c.self.view_is
    (elim c.match-append.branch [
      | in-Ok-Written w ↦ subst (λ r. OnErr r (IsShort rules disk c.self.inside.kept c.append.new.kept arrive)) (sym w.result-is) tt
      | in-Ok-Fallen w ↦ subst (λ r. OnErr r (IsShort rules disk c.self.inside.kept c.append.new.kept arrive)) (sym w.result-is) tt
      | in-Err w ↦ subst (λ r. OnErr r (IsShort rules disk c.self.inside.kept c.append.new.kept arrive)) (sym w.result-is)
          (was-short rules disk c.self.inside.kept c.append.new.kept c.args.unit.now.receiver c.in_ok-next.next None arrive does c.append.result
          c.append.ensures.ends w.in-Err.short w.in-Err.is)
    ])
