use Rattle.std.proofs.Common.{◌≡◌, ℕ, ◌<◌, [], length, get_or, take}
use Rattle.ale_volumes.specs.Memory.{after_steps}
use Rattle.ale_volumes.specs.Survivors.{surviving}
use Rattle.worked_cases.proofs.starts.image_of.Given as goal

abbrev pub invariant-loop-n : goal.invariant-loop-n
invariant-loop-n l = record {
  volumes : length l.image ≡ 16;
  made : (n : ℕ) → n < l.n → get_or l.image n [] ≡ surviving (after_steps l.vols.start (take l.moment l.vols.steps) n) l.survivors;
}
