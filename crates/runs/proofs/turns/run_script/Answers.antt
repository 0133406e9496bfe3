use Rattle.std.proofs.Common.{arith, refl, sym, ◌∙◌}
use Rattle.runs.proofs.RunLemmas.{Run-behind, Run-whole, SoFar-next, SoFar-start, turn-files}
use Rattle.runs.proofs.turns.run_script.Goals as goal

pub loop-command-init : goal.loop-command-init
loop-command-init g c = record {
  so_far =
      SoFar-start g.V.Volumes.disk c.args.inputs.now (g.F.Files.told c.args.files.now) c.args.commands.now c.args.stage (g.F.Files.faults c.args.files.now)
      (g.K.Sink.contents c.args.out.now) (g.K.Sink.faults c.args.out.now)
      (g.C.Clock.given c.args.clock.now) (g.C.Clock.told c.args.clock.now) c.world.ensures.sound;
  safe = c.world.ensures.safe;
  still = λ tells. tells;
  files = λ name. refl;
  files_counted = omega arith;
}

pub loop-command-preserved : goal.loop-command-preserved
loop-command-preserved g c = record {
  so_far =
      SoFar-next g.V.Volumes.disk c.args.inputs.now (g.F.Files.told c.args.files.now) c.args.commands.now c.args.stage (g.F.Files.faults c.args.files.now)
      (g.K.Sink.contents c.args.out.now) (g.K.Sink.faults c.args.out.now)
      (g.C.Clock.given c.args.clock.now) c.loop-command.command-index
      c.command-item.result _ c.loop-command.stage c.turn-after.result.stage (g.F.Files.faults c.loop-command.files) (g.F.Files.faults c.turn-after.new.files)
      (g.K.Sink.contents c.loop-command.out) (g.K.Sink.contents c.turn-after.new.out)
      (g.K.Sink.faults c.loop-command.out) (g.K.Sink.faults c.turn-after.new.out) (g.C.Clock.told c.loop-command.clock)
      (g.C.Clock.told c.turn-after.new.clock)
      (g.C.Clock.given c.loop-command.clock) (g.C.Clock.given c.turn-after.new.clock) c.loop-command.invariant.so_far c.loop-command-test.true
      c.command-item.is
      c.turn-after.ensures.told c.turn-after.ensures.turn.0 c.turn-after.ensures.turn.2 c.turn-after.ensures.sound
      c.turn-after.ensures.now c.turn-after.result.end
      (turn-files g.V.Volumes.disk c.args.inputs.now (g.F.Files.told c.args.files.now) (g.F.Files.told c.loop-command.files) c.loop-command.invariant.files
      (g.F.Files.faults c.loop-command.files) (g.F.Files.faults c.turn-after.new.files) c.turn-after.result.end c.turn-after.ensures.turn.0
      c.command-item.result c.loop-command.stage c.turn-after.result.stage (g.K.Sink.contents c.loop-command.out) (g.K.Sink.contents c.turn-after.new.out)
      (g.K.Sink.faults c.loop-command.out) (g.K.Sink.faults c.turn-after.new.out) c.turn-after.ensures.turn.1)
      (sym c.behind.ensures ∙ c.in-None.is);
  safe = c.turn-after.ensures.safe;
  still = λ tells. c.loop-command.invariant.still (c.turn-after.ensures.told tells);
  files = λ name. c.turn-after.ensures.files name ∙ c.loop-command.invariant.files name;
  files_counted =
      let before = c.loop-command.invariant.files_counted in
      let now = c.turn-after.ensures.files_counted in
      omega (arith, before, now);
}

pub returns-in-Some-clause-run : goal.returns-in-Some-clause-run
returns-in-Some-clause-run g c =
    Run-behind g.V.Volumes.disk c.args.inputs.now (g.F.Files.told c.args.files.now) c.args.commands.now c.args.stage (g.F.Files.faults c.args.files.now)
    (g.K.Sink.contents c.args.out.now) (g.K.Sink.faults c.args.out.now)
    (g.C.Clock.given c.args.clock.now) c.loop-command.command-index
    c.command-item.result _ c.loop-command.stage c.turn-after.result.stage (g.F.Files.faults c.loop-command.files) (g.F.Files.faults c.turn-after.new.files)
    (g.K.Sink.contents c.loop-command.out) (g.K.Sink.contents c.turn-after.new.out)
    (g.K.Sink.faults c.loop-command.out) (g.K.Sink.faults c.turn-after.new.out) (g.C.Clock.told c.loop-command.clock) (g.C.Clock.told c.turn-after.new.clock)
    (g.C.Clock.given c.loop-command.clock) (g.C.Clock.given c.turn-after.new.clock) c.loop-command.invariant.so_far c.loop-command-test.true c.command-item.is
    c.turn-after.ensures.told c.turn-after.ensures.turn.0 c.turn-after.ensures.turn.2 c.turn-after.ensures.sound
    c.turn-after.ensures.now c.turn-after.result.end
    (turn-files g.V.Volumes.disk c.args.inputs.now (g.F.Files.told c.args.files.now) (g.F.Files.told c.loop-command.files) c.loop-command.invariant.files
    (g.F.Files.faults c.loop-command.files) (g.F.Files.faults c.turn-after.new.files) c.turn-after.result.end c.turn-after.ensures.turn.0
    c.command-item.result c.loop-command.stage c.turn-after.result.stage (g.K.Sink.contents c.loop-command.out) (g.K.Sink.contents c.turn-after.new.out)
    (g.K.Sink.faults c.loop-command.out) (g.K.Sink.faults c.turn-after.new.out) c.turn-after.ensures.turn.1)
    c.in-Some.end (sym c.behind.ensures ∙ c.in-Some.is)

pub returns-in-Some-clause-files : goal.returns-in-Some-clause-files
returns-in-Some-clause-files g c name = c.turn-after.ensures.files name ∙ c.loop-command.invariant.files name

pub returns-in-Some-clause-files_counted : goal.returns-in-Some-clause-files_counted
returns-in-Some-clause-files_counted g c =
    let before = c.loop-command.invariant.files_counted in
    let now = c.turn-after.ensures.files_counted in
    omega (arith, before, now)

pub returns-clause-run : goal.returns-clause-run
returns-clause-run g c =
    Run-whole g.V.Volumes.disk c.args.inputs.now (g.F.Files.told c.args.files.now) c.args.commands.now c.args.stage (g.F.Files.faults c.args.files.now)
    (g.K.Sink.contents c.args.out.now) (g.K.Sink.faults c.args.out.now)
    (g.C.Clock.given c.args.clock.now) c.loop-command.command-index
    c.loop-command.stage (g.F.Files.faults c.loop-command.files) (g.K.Sink.contents c.loop-command.out) (g.K.Sink.faults c.loop-command.out)
    (g.C.Clock.told c.loop-command.clock)
    (g.C.Clock.given c.loop-command.clock) c.loop-command.invariant.so_far (let end = c.loop-command-test.false in omega arith) c.last_end-end.result
    c.last_end-end.ensures

pub returns-clause-files_counted : goal.returns-clause-files_counted
returns-clause-files_counted g c = c.loop-command.invariant.files_counted
