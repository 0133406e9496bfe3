use Rattle.std.proofs.Common.{subst, sym}
use Rattle.runs.specs.declared.turns.TurnEnd.{TurnEnd}
use Rattle.runs.specs.Text.{shown}
use Rattle.runs.specs.steps.Put.{IsReported}
use Rattle.runs.proofs.RunLemmas.{reported-halted}
use Rattle.runs.proofs.turns.report.Goals as goal

pub returns-in-Err-clause-reported : goal.returns-in-Err-clause-reported
returns-in-Err-clause-reported g c =
    subst (λ (its : TurnEnd). IsReported its c.args.answer (λ answered. shown c.args.command.now answered c.args.stage.now)
    (g.K.Sink.contents c.args.out.now) (g.K.Sink.contents c.args.out.now) (g.K.Sink.faults c.args.out.now) (g.K.Sink.faults c.args.out.now))
    (sym c.halted.ensures)
    (reported-halted c.in-Err.halt c.args.answer (λ answered. shown c.args.command.now answered c.args.stage.now) (g.K.Sink.contents c.args.out.now)
    (g.K.Sink.faults c.args.out.now) c.in-Err.is)
