use Rattle.std.proofs.Common.{◌≡◌, ◌≤◌, ℕ, List}
use Rattle.unit_landscape.specs.Kept.{IsLandscape}
use Rattle.unit_works.proofs.WorkedLemmas.{meaning}
use Rattle.runs.proofs.RunLemmas.{SoFar}
use Rattle.runs.proofs.turns.run_script.Given as goal

abbrev pub invariant-loop-command : goal.invariant-loop-command
invariant-loop-command g l = record {
  so_far : SoFar g.V.Volumes.disk l.inputs (g.F.Files.told l.initial.files) l.commands l.command-index l.initial.stage l.stage
      (g.F.Files.faults l.initial.files) (g.F.Files.faults l.files)
      (g.K.Sink.contents l.initial.out) (g.K.Sink.contents l.out) (g.K.Sink.faults l.initial.out) (g.K.Sink.faults l.out)
      (g.C.Clock.told l.clock) (g.C.Clock.given l.initial.clock) (g.C.Clock.given l.clock);
  safe : IsLandscape meaning l.stage.landscape.world;
  still : g.C.Clock.told l.clock → g.C.Clock.told l.initial.clock;
  files : (name : List ℕ) → g.F.Files.told l.files name ≡ g.F.Files.told l.initial.files name;
  files_counted : g.F.Files.faults l.initial.files ≤ g.F.Files.faults l.files;
}
