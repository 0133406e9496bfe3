use Rattle.std.proofs.Common.{◌≡◌, take}
use Rattle.std.specs.Prelude.{fold}
use Rattle.ale_volumes.specs.Memory.{contents_after_step}
use Rattle.ale_volumes.proofs.replay.contents_after.Given as goal

abbrev pub invariant-loop-step : goal.invariant-loop-step
invariant-loop-step l = l.held ≡ fold (contents_after_step l.n) l.start (take l.step-index l.steps)
