use Rattle.std.proofs.Common.{inl, refl, sym, subst}
use Rattle.runs.specs.declared.run_end.RunEnd.{RunEnd}
use Rattle.runs.specs.declared.run_end.RunEnd.TheVariants.{OutOfMemory}
use Rattle.ale_host.specs.Closing.{IsClosed}
use Rattle.ale_host.proofs.ClosingLemmas.{closed-put, short-other}
use Rattle.ale_host.proofs.running.close.Goals as goal

pub returns-in-OutOfMemory-clause-closed : goal.returns-in-OutOfMemory-clause-closed
returns-in-OutOfMemory-clause-closed g c =
    subst (λ (end : RunEnd). IsClosed c.args.model.now end c.put.result (g.K.Sink.contents c.args.out.now) (g.K.Sink.contents c.put.new.out)
    (g.K.Sink.faults c.args.out.now) (g.K.Sink.faults c.put.new.out)) (sym c.in-OutOfMemory.is)
    (closed-put c.args.model.now (g.K.Sink.contents c.args.out.now) (g.K.Sink.contents c.put.new.out) (g.K.Sink.faults c.args.out.now)
    (g.K.Sink.faults c.put.new.out)
    OutOfMemory short-other 9 c.put.result _ (inl (refl, refl)) c.put.ensures.ended c.put.ensures.write_fault)
