use Rattle.std.specs.Arc.{arc_value}
use Rattle.std.proofs.Common.{◌++◌, refl, subst}
use Rattle.dist_model.specs.declared.lists.Lists.{Lists}
use Rattle.runs.specs.Turns.{text_of}
use Rattle.ale_host.specs.Closing.{IsClosed}
use Rattle.ale_host.proofs.ClosingLemmas.{part-put, whole-put}
use Rattle.ale_host.proofs.running.run_opened.Goals as goal

pub returns-clause-ended : goal.returns-clause-ended
returns-clause-ended g c = λ not_6.
    let ran = c.run_script-stage.ensures.run in
    let ends = c.run_script-stage.result.end in
    let closed = subst (λ (model : Lists). IsClosed model ends c.close-status.result (g.K.Sink.contents c.run_script-stage.new.out)
    (g.K.Sink.contents c.close-status.new.out)
    (g.K.Sink.faults c.run_script-stage.new.out) (g.K.Sink.faults c.close-status.new.out)) c.deref.ensures c.close-status.ensures.closed in
    let last = whole-put (arc_value c.args.inputs.now.model) (g.K.Sink.contents c.args.out.now) (g.K.Sink.contents c.run_script-stage.new.out)
    (g.K.Sink.contents c.close-status.new.out)
    (g.K.Sink.faults c.args.out.now) (g.K.Sink.faults c.run_script-stage.new.out) (g.K.Sink.faults c.close-status.new.out) ran.0
    c.close-status.result ends ran.2 closed not_6 in (
      text_of ran.0 ++ last.0,
      (
        text_of ran.0,
        record {
          first = _;
          begins = refl;
          no_letters = c.new.ensures;
          turns = ran.0;
          its_end = ends;
          left = c.run_script-stage.result.stage;
          run = ran.1;
          line = last.0;
          ends = last.1;
          printed_is = refl;
          sure_is = last.2;
          volumes = c.into_volumes.ensures;
          safe = c.world.ensures.safe;
          on_volumes = c.world.ensures.kept.on_volumes;
          causes = c.world.ensures.kept.causes;
          asked = ran.3;
        },
        last.3,
      ),
    )

pub returns-clause-write_fault : goal.returns-clause-write_fault
returns-clause-write_fault g c = λ is_6.
    let ran = c.run_script-stage.ensures.run in
    let ends = c.run_script-stage.result.end in
    let closed = subst (λ (model : Lists). IsClosed model ends c.close-status.result (g.K.Sink.contents c.run_script-stage.new.out)
    (g.K.Sink.contents c.close-status.new.out)
    (g.K.Sink.faults c.run_script-stage.new.out) (g.K.Sink.faults c.close-status.new.out)) c.deref.ensures c.close-status.ensures.closed in
    let last = part-put (arc_value c.args.inputs.now.model) (g.K.Sink.contents c.args.out.now) (g.K.Sink.contents c.run_script-stage.new.out)
    (g.K.Sink.contents c.close-status.new.out)
    (g.K.Sink.faults c.args.out.now) (g.K.Sink.faults c.run_script-stage.new.out) (g.K.Sink.faults c.close-status.new.out) ran.0
    c.close-status.result ends ran.2 closed is_6 in (
      last.0,
      (
        text_of ran.0 ++ last.1.0,
        (
          last.1.1.0,
          record {
            first = _;
            begins = refl;
            no_letters = c.new.ensures;
            turns = ran.0;
            its_end = ends;
            left = c.run_script-stage.result.stage;
            run = ran.1;
            line = last.1.0;
            ends = last.1.1.1;
            printed_is = refl;
            sure_is = last.1.1.2;
            volumes = c.into_volumes.ensures;
            safe = c.world.ensures.safe;
            on_volumes = c.world.ensures.kept.on_volumes;
            causes = c.world.ensures.kept.causes;
            asked = ran.3;
          },
          last.1.1.3,
        ),
      ),
    )
