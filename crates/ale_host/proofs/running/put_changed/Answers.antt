use Rattle.std.proofs.Common.{inl, inr, refl, ◌∙◌}
use Rattle.runs.specs.declared.run_end.RunEnd.TheVariants.{Changed}
use Rattle.ale_host.proofs.ClosingLemmas.{closed-put, changed-other}
use Rattle.ale_host.proofs.running.put_changed.Goals as goal

pub returns-in-Ok-clause-closed : goal.returns-in-Ok-clause-closed
returns-in-Ok-clause-closed g c =
    closed-put c.args.model.now (g.K.Sink.contents c.args.out.now) (g.K.Sink.contents c.put.new.out) (g.K.Sink.faults c.args.out.now)
    (g.K.Sink.faults c.put.new.out)
    (Changed c.args.system c.args.number) (changed-other c.args.system c.args.number) 7 c.put.result c.as_slice.result.now
    (inl (refl, c.as_slice.ensures.value ∙ c.in-Ok.ensures))
    c.put.ensures.ended c.put.ensures.write_fault

pub returns-in-Err-clause-closed : goal.returns-in-Err-clause-closed
returns-in-Err-clause-closed g c =
    closed-put c.args.model.now (g.K.Sink.contents c.args.out.now) (g.K.Sink.contents c.put-in-Err.new.out) (g.K.Sink.faults c.args.out.now)
    (g.K.Sink.faults c.put-in-Err.new.out)
    (Changed c.args.system c.args.number) (changed-other c.args.system c.args.number) 9 c.put-in-Err.result _ (inr (tt, refl, refl)) c.put-in-Err.ensures.ended
    c.put-in-Err.ensures.write_fault
