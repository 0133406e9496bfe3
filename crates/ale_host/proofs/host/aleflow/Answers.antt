use Rattle.std.specs.Arc.{arc_value}
use Rattle.std.proofs.Common.{ℕ, List, [], map, length, ◌≤◌, string_bytes, zero-le, Some, inl, inr, refl, sym, ap, subst, ◌∙◌}
use Rattle.dist_model.specs.declared.lists.Lists.{Lists}
use Rattle.said_models.specs.Said.{said}
use Rattle.ale_base.specs.Faults.{Rose}
use Rattle.ale_host.specs.Ending.{status_of, text_of}
use Rattle.ale_host.specs.Running.{masters_of}
use Rattle.ale_host.proofs.EndingLemmas.{ends-as, quiet-early}
use Rattle.ale_host.proofs.OneEnding.{one_ending}
use Rattle.runs.proofs.ReplacingLemmas.{said-of}
use Rattle.ale_host.proofs.RunningLemmas.{asks-said, asks-short, runs-said}
use Rattle.ale_host.proofs.host.aleflow.Goals as goal

pub run-requires-clause-said : goal.run-requires-clause-said
run-requires-clause-said g c = λ lives outlive.
    let order = c.in-Ok.ensures.runs in
    ap said order.1.1.1.2.text_is
    ∙ said-of order.0 order.1.0
    (asks-said (map string_bytes c.args.words.now) (g.F.Files.told c.args.files.now) c.in-Ok.field-0.report order.0 order.1.0 order.1.1.0 order.1.1.1.0
    order.1.1.1.1)
    ∙ ap (λ (model : Lists). Some model) (sym order.1.1.1.2.model_is)

pub run-requires-clause-short : goal.run-requires-clause-short
run-requires-clause-short g c = λ lives outlive.
    let order = c.in-Ok.ensures.runs in
    subst (λ (text : List ℕ). length text ≤ 1048576) (sym order.1.1.1.2.text_is)
    (asks-short (map string_bytes c.args.words.now) (g.F.Files.told c.args.files.now) c.in-Ok.field-0.report order.0 order.1.0 order.1.1.0 order.1.1.1.0
    order.1.1.1.1)

pub returns-in-Err-clause-ended : goal.returns-in-Err-clause-ended
returns-in-Err-clause-ended g c = λ not_6.
    let its = c.print-status.ensures.ended not_6 in (
      text_of its.0,
      (
        [],
        inl (record {
          ending = its.0;
          ends = ends-as (map string_bytes c.args.words.now) (g.F.Files.told c.args.files.now)
              (Rose (g.F.Files.faults c.args.files.now) (g.F.Files.faults c.asked.new.files)) c.in-Err.ending its.0 c.in-Err.ensures.ends its.1;
          quiet = quiet-early c.in-Err.ending its.0 (g.F.Files.faults c.args.files.now) (g.F.Files.faults c.asked.new.files)
              c.in-Err.ensures.only.quiet its.1;
          status_is = its.2;
          printed_is = refl;
          sure_is = refl;
          volumes = refl;
          asked = refl;
        }),
        its.3.appends,
        its.3.quiet,
      ),
    )

pub returns-in-Err-clause-write_fault : goal.returns-in-Err-clause-write_fault
returns-in-Err-clause-write_fault g c = λ is_6.
    let its = c.print-status.ensures.write_fault is_6 in (
      status_of its.0,
      (
        text_of its.0,
        (
          [],
          inl (record {
            ending = its.0;
            ends = ends-as (map string_bytes c.args.words.now) (g.F.Files.told c.args.files.now)
                (Rose (g.F.Files.faults c.args.files.now) (g.F.Files.faults c.asked.new.files)) c.in-Err.ending its.0 c.in-Err.ensures.ends its.1;
            quiet = quiet-early c.in-Err.ending its.0 (g.F.Files.faults c.args.files.now) (g.F.Files.faults c.asked.new.files)
                c.in-Err.ensures.only.quiet its.1;
            status_is = refl;
            printed_is = refl;
            sure_is = refl;
            volumes = refl;
            asked = refl;
          }),
          record { count = its.2.appends.0; least = zero-le; appends = its.2.appends.1; rose = its.2.rose },
        ),
      ),
    )

pub returns-in-Err-clause-one_ending : goal.returns-in-Err-clause-one_ending
returns-in-Err-clause-one_ending g c = one_ending

pub returns-in-Ok-clause-ended : goal.returns-in-Ok-clause-ended
returns-in-Ok-clause-ended g c = λ not_6.
    let order = c.in-Ok.ensures.runs in
    let is = order.1.1.1.2 in
    let ran = c.run.ensures.ended not_6 in (
      ran.0,
      (
        ran.1.0,
        inr (record {
          report = c.in-Ok.field-0.report;
          text = order.0;
          model = order.1.0;
          documents = order.1.1.0;
          commands = order.1.1.1.0;
          asks = order.1.1.1.1;
          runs = runs-said g.V.Volumes.disk
              c.in-Ok.field-0.prepared.text order.0 (arc_value c.in-Ok.field-0.prepared.model) order.1.0 c.in-Ok.field-0.prepared.inputs.masters
              (masters_of order.1.1.0) c.in-Ok.field-0.prepared.commands order.1.1.1.0 c.args.vols c.run.result.vols c.in-Ok.field-0.report
              (g.F.Files.told c.asked.new.files) (g.F.Files.told c.args.files.now) (g.F.Files.faults c.asked.new.files)
              (g.F.Files.faults c.args.files.now) (g.F.Files.faults c.run.new.files) (g.C.Clock.told c.run.new.clock) (g.C.Clock.given
              c.args.clock.now) (g.C.Clock.given c.run.new.clock) c.run.result.status ran.0 ran.1.0
              c.in-Ok.ensures.only.kept c.in-Ok.ensures.only.quiet is.text_is is.model_is is.masters_are is.commands_are ran.1.1;
        }),
        ran.1.2.appends,
        ran.1.2.quiet,
      ),
    )

pub returns-in-Ok-clause-write_fault : goal.returns-in-Ok-clause-write_fault
returns-in-Ok-clause-write_fault g c = λ is_6.
    let order = c.in-Ok.ensures.runs in
    let is = order.1.1.1.2 in
    let ran = c.run.ensures.write_fault is_6 in (
      ran.0,
      (
        ran.1.0,
        (
          ran.1.1.0,
          inr (record {
            report = c.in-Ok.field-0.report;
            text = order.0;
            model = order.1.0;
            documents = order.1.1.0;
            commands = order.1.1.1.0;
            asks = order.1.1.1.1;
            runs = runs-said g.V.Volumes.disk
                c.in-Ok.field-0.prepared.text order.0 (arc_value c.in-Ok.field-0.prepared.model) order.1.0 c.in-Ok.field-0.prepared.inputs.masters
                (masters_of order.1.1.0) c.in-Ok.field-0.prepared.commands order.1.1.1.0 c.args.vols c.run.result.vols c.in-Ok.field-0.report
                (g.F.Files.told c.asked.new.files) (g.F.Files.told c.args.files.now) (g.F.Files.faults c.asked.new.files)
                (g.F.Files.faults c.args.files.now) (g.F.Files.faults c.run.new.files) (g.C.Clock.told c.run.new.clock) (g.C.Clock.given
                c.args.clock.now) (g.C.Clock.given c.run.new.clock) ran.0 ran.1.0 ran.1.1.0
                c.in-Ok.ensures.only.kept c.in-Ok.ensures.only.quiet is.text_is is.model_is is.masters_are is.commands_are ran.1.1.1;
          }),
          ran.1.1.2,
        ),
      ),
    )

pub returns-in-Ok-clause-one_ending : goal.returns-in-Ok-clause-one_ending
returns-in-Ok-clause-one_ending g c = one_ending
