use Rattle.std.specs.Prelude.{fold}
use Rattle.std.proofs.Common.{◌≡◌, take}
use Rattle.ale_volumes.specs.Memory.{after_step}
use Rattle.ale_volumes.proofs.memory_volumes.MemoryVolumes.volume_at.Given as goal

abbrev pub invariant-loop-step : goal.invariant-loop-step
invariant-loop-step l = l.volume ≡ fold (after_step l.n) l.initial.volume (take l.step-index l.since)
