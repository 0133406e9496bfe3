use Rattle.std.specs.Arc.{arc_value}
use Rattle.std.proofs.Common.{[], zero-le, inl, refl, sym, subst, ◌∙◌}
use Rattle.dist_model.specs.declared.lists.Lists.{Lists}
use Rattle.ale_volumes.specs.Disk.{Disk}
use Rattle.ale_host.specs.declared.running.Report.TheVariants.{Commands, Counts}
use Rattle.ale_host.specs.Running.{EndsUnopened}
use Rattle.ale_host.proofs.RunningLemmas.{ran-from}
use Rattle.ale_host.proofs.running.run.Goals as goal

pub returns-in-Err-clause-ended : goal.returns-in-Err-clause-ended
returns-in-Err-clause-ended g c = λ not_6.
    let put = c.put_unopened-status.ensures.ended not_6 in (
      put.0,
      (
        [],
        inl (record {
          moment = c.now-moment.result;
          why = c.in-Err.field-0.why;
          not_opened = record {
            whys = c.in-Err.ensures.why;
            faulted = c.in-Err.ensures.faults;
            left = c.in-Err.ensures.volumes;
            opens = c.in-Err.ensures.opens;
            judged = c.in-Err.ensures.not_refused;
          };
          ends = subst (λ (model : Lists). EndsUnopened model c.in-Err.field-0.why c.put_unopened-status.result put.0) (c.deref.ensures ∙ c.requires.names)
              put.1;
          sure_is = refl;
          files = refl;
          asked = c.now-moment.ensures.given;
        }),
        put.2,
      ),
    )

pub returns-in-Err-clause-write_fault : goal.returns-in-Err-clause-write_fault
returns-in-Err-clause-write_fault g c = λ is_6.
    let part = c.put_unopened-status.ensures.write_fault is_6 in (
      part.0,
      (
        part.1.0,
        (
          [],
          inl (record {
            moment = c.now-moment.result;
            why = c.in-Err.field-0.why;
            not_opened = record {
              whys = c.in-Err.ensures.why;
              faulted = c.in-Err.ensures.faults;
              left = c.in-Err.ensures.volumes;
              opens = c.in-Err.ensures.opens;
              judged = c.in-Err.ensures.not_refused;
            };
            ends = subst (λ (model : Lists). EndsUnopened model c.in-Err.field-0.why part.0 part.1.0) (c.deref.ensures ∙ c.requires.names)
                part.1.1;
            sure_is = refl;
            files = refl;
            asked = c.now-moment.ensures.given;
          }),
          record { count = part.1.2.appends.0; least = zero-le; appends = part.1.2.appends.1; rose = part.1.2.rose },
        ),
      ),
    )

pub run_opened-requires : goal.run_opened-requires
run_opened-requires g c = (c.type_bounds.send-V, (c.type_bounds.sync-R, c.type_bounds.sync-G))

pub returns-in-Commands-clause-ended : goal.returns-in-Commands-clause-ended
returns-in-Commands-clause-ended g c = λ not_6.
    let disk : Disk g.row.V.Denot = g.V.Volumes.disk in
    let met = g.met.V.Volumes g.world.𝓛 g.world.𝓜 g.world.𝓡 ((λ s x. x), (λ x. x), (λ x. x), λ x. x) in
    let ran = c.run_opened.ensures.ended not_6 in (
      ran.0,
      (
        ran.1.0,
        ran-from disk met.only_now met.counts_now met.read_is_image
            c.args.prepared.text (arc_value c.args.prepared.model) c.args.prepared.inputs.masters c.args.prepared.commands
            c.as_slice-commands.result.now c.args.vols c.run_opened.result.vols c.args.report Commands (g.F.Files.told c.args.files.now)
            (g.F.Files.faults c.args.files.now) (g.F.Files.faults c.run_opened.new.files) (g.C.Clock.told c.run_opened.new.clock)
            (g.C.Clock.given c.args.clock.now)
            (g.C.Clock.given c.now-moment.new.self) (g.C.Clock.given c.run_opened.new.clock) c.run_opened.result.status ran.0 ran.1.0
            c.now-moment.result c.in-Ok.landscape c.args.prepared.inputs
            c.requires.said
            (record { world = c.in-Ok.ensures.opened; still = c.in-Ok.ensures.faults; left = c.in-Ok.ensures.volumes; opens = c.in-Ok.ensures.opens })
            c.requires.names refl (λ tells. c.now-moment.ensures.given (c.run_opened.ensures.told tells)) c.as_slice-commands.ensures
            (sym c.in-Commands.is) ran.1.1,
        ran.1.2,
      ),
    )

pub returns-in-Commands-clause-write_fault : goal.returns-in-Commands-clause-write_fault
returns-in-Commands-clause-write_fault g c = λ is_6.
    let disk : Disk g.row.V.Denot = g.V.Volumes.disk in
    let met = g.met.V.Volumes g.world.𝓛 g.world.𝓜 g.world.𝓡 ((λ s x. x), (λ x. x), (λ x. x), λ x. x) in
    let ran = c.run_opened.ensures.write_fault is_6 in (
      ran.0,
      (
        ran.1.0,
        (
          ran.1.1.0,
          ran-from disk met.only_now met.counts_now met.read_is_image
              c.args.prepared.text (arc_value c.args.prepared.model) c.args.prepared.inputs.masters c.args.prepared.commands
              c.as_slice-commands.result.now c.args.vols c.run_opened.result.vols c.args.report Commands (g.F.Files.told c.args.files.now)
              (g.F.Files.faults c.args.files.now) (g.F.Files.faults c.run_opened.new.files) (g.C.Clock.told c.run_opened.new.clock)
              (g.C.Clock.given c.args.clock.now)
              (g.C.Clock.given c.now-moment.new.self) (g.C.Clock.given c.run_opened.new.clock) ran.0 ran.1.0 ran.1.1.0
              c.now-moment.result c.in-Ok.landscape c.args.prepared.inputs
              c.requires.said
              (record { world = c.in-Ok.ensures.opened; still = c.in-Ok.ensures.faults; left = c.in-Ok.ensures.volumes; opens = c.in-Ok.ensures.opens })
              c.requires.names refl (λ tells. c.now-moment.ensures.given (c.run_opened.ensures.told tells)) c.as_slice-commands.ensures
              (sym c.in-Commands.is) ran.1.1.1,
          ran.1.1.2,
        ),
      ),
    )

pub load_opened-requires : goal.load_opened-requires
load_opened-requires g c = (c.type_bounds.send-V, (c.type_bounds.sync-R, c.type_bounds.sync-G))

pub returns-clause-ended : goal.returns-clause-ended
returns-clause-ended g c = λ not_6.
    let disk : Disk g.row.V.Denot = g.V.Volumes.disk in
    let met = g.met.V.Volumes g.world.𝓛 g.world.𝓜 g.world.𝓡 ((λ s x. x), (λ x. x), (λ x. x), λ x. x) in
    let ran = c.load_opened.ensures.ended not_6 in (
      ran.0,
      (
        ran.1.0,
        ran-from disk met.only_now met.counts_now met.read_is_image
            c.args.prepared.text (arc_value c.args.prepared.model) c.args.prepared.inputs.masters c.args.prepared.commands
            c.as_slice-commands.result.now c.args.vols c.load_opened.result.vols c.args.report Counts (g.F.Files.told c.args.files.now)
            (g.F.Files.faults c.args.files.now) (g.F.Files.faults c.load_opened.new.files) (g.C.Clock.told c.load_opened.new.clock)
            (g.C.Clock.given c.args.clock.now)
            (g.C.Clock.given c.now-moment.new.self) (g.C.Clock.given c.load_opened.new.clock) c.load_opened.result.status ran.0 ran.1.0
            c.now-moment.result c.in-Ok.landscape c.args.prepared.inputs
            c.requires.said
            (record { world = c.in-Ok.ensures.opened; still = c.in-Ok.ensures.faults; left = c.in-Ok.ensures.volumes; opens = c.in-Ok.ensures.opens })
            c.requires.names refl (λ tells. c.now-moment.ensures.given (c.load_opened.ensures.told tells)) c.as_slice-commands.ensures
            (sym c.in-Counts.is) ran.1.1,
        ran.1.2,
      ),
    )

pub returns-clause-write_fault : goal.returns-clause-write_fault
returns-clause-write_fault g c = λ is_6.
    let disk : Disk g.row.V.Denot = g.V.Volumes.disk in
    let met = g.met.V.Volumes g.world.𝓛 g.world.𝓜 g.world.𝓡 ((λ s x. x), (λ x. x), (λ x. x), λ x. x) in
    let ran = c.load_opened.ensures.write_fault is_6 in (
      ran.0,
      (
        ran.1.0,
        (
          ran.1.1.0,
          ran-from disk met.only_now met.counts_now met.read_is_image
              c.args.prepared.text (arc_value c.args.prepared.model) c.args.prepared.inputs.masters c.args.prepared.commands
              c.as_slice-commands.result.now c.args.vols c.load_opened.result.vols c.args.report Counts (g.F.Files.told c.args.files.now)
              (g.F.Files.faults c.args.files.now) (g.F.Files.faults c.load_opened.new.files) (g.C.Clock.told c.load_opened.new.clock)
              (g.C.Clock.given c.args.clock.now)
              (g.C.Clock.given c.now-moment.new.self) (g.C.Clock.given c.load_opened.new.clock) ran.0 ran.1.0 ran.1.1.0
              c.now-moment.result c.in-Ok.landscape c.args.prepared.inputs
              c.requires.said
              (record { world = c.in-Ok.ensures.opened; still = c.in-Ok.ensures.faults; left = c.in-Ok.ensures.volumes; opens = c.in-Ok.ensures.opens })
              c.requires.names refl (λ tells. c.now-moment.ensures.given (c.load_opened.ensures.told tells)) c.as_slice-commands.ensures
              (sym c.in-Counts.is) ran.1.1.1,
          ran.1.1.2,
        ),
      ),
    )
