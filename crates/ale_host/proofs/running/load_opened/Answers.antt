use Rattle.std.specs.Arc.{arc_value}
use Rattle.std.proofs.Common.{[], zero-le, refl, subst}
use Rattle.dist_model.specs.declared.lists.Lists.{Lists}
use Rattle.landscape.specs.declared.counts.Counts.{Counts}
use Rattle.ale_host.specs.Running.{EndsCounting}
use Rattle.ale_host.proofs.ClosingLemmas.{none-failed}
use Rattle.ale_host.proofs.running.load_opened.Goals as goal

pub close_load-status-requires : goal.close_load-status-requires
close_load-status-requires g c = record {
  taken = none-failed c.run_script-stage.result.end _ _ c.run_script-stage.ensures.run.0
      c.run_script-stage.ensures.run.2;
}

pub returns-clause-ended : goal.returns-clause-ended
returns-clause-ended g c = λ not_6.
    let ran = c.run_script-stage.ensures.run in
    let ends = c.run_script-stage.result.end in
    let last = c.close_load-status.ensures.ended not_6 in (
      last.0,
      (
        [],
        record {
          first = _;
          begins = refl;
          no_letters = c.new.ensures;
          turns = ran.0;
          its_end = ends;
          left = c.run_script-stage.result.stage;
          run = ran.1;
          line = last.0;
          ends = subst (λ (counts : Counts). EndsCounting counts (arc_value c.args.inputs.now.model) ends c.close_load-status.result last.0)
              c.held-counts.ensures
              (subst (λ (model : Lists). EndsCounting c.held-counts.result model ends c.close_load-status.result last.0) c.deref.ensures last.1);
          printed_is = refl;
          sure_is = refl;
          volumes = c.into_volumes.ensures;
          safe = c.world.ensures.safe;
          on_volumes = c.world.ensures.kept.on_volumes;
          causes = c.world.ensures.kept.causes;
          asked = ran.3;
        },
        last.2,
      ),
    )

pub returns-clause-write_fault : goal.returns-clause-write_fault
returns-clause-write_fault g c = λ is_6.
    let ran = c.run_script-stage.ensures.run in
    let ends = c.run_script-stage.result.end in
    let last = c.close_load-status.ensures.write_fault is_6 in (
      last.0,
      (
        last.1.0,
        (
          [],
          record {
            first = _;
            begins = refl;
            no_letters = c.new.ensures;
            turns = ran.0;
            its_end = ends;
            left = c.run_script-stage.result.stage;
            run = ran.1;
            line = last.1.0;
            ends = subst (λ (counts : Counts). EndsCounting counts (arc_value c.args.inputs.now.model) ends last.0 last.1.0) c.held-counts.ensures
                (subst (λ (model : Lists). EndsCounting c.held-counts.result model ends last.0 last.1.0) c.deref.ensures last.1.1);
            printed_is = refl;
            sure_is = refl;
            volumes = c.into_volumes.ensures;
            safe = c.world.ensures.safe;
            on_volumes = c.world.ensures.kept.on_volumes;
            causes = c.world.ensures.kept.causes;
            asked = ran.3;
          },
          record { count = last.1.2.appends.0; least = zero-le; appends = last.1.2.appends.1; rose = last.1.2.rose },
        ),
      ),
    )
