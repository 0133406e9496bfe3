use Rattle.std.proofs.Common.{◌≡◌, drop, length}
use Rattle.ale_volumes.specs.Survivors.{laid, surviving}
use Rattle.ale_volumes.proofs.volume.Volume.image.Given as goal

abbrev pub invariant-loop-i : goal.invariant-loop-i
invariant-loop-i l = record {
  size : length l.image.items ≡ l.length;
  chosen : laid l.length (drop l.i l.self.writes) (drop l.i l.survivors.bytes) l.image.items ≡ surviving l.self l.survivors;
}
