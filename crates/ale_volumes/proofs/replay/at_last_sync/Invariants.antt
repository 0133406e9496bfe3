use Rattle.std.proofs.Common.{◌≤◌, take}
use Rattle.ale_volumes.specs.Memory.{EndsAtSync}
use Rattle.ale_volumes.proofs.replay.at_last_sync.Given as goal

abbrev pub invariant-loop-i : goal.invariant-loop-i
invariant-loop-i l = record {
  within : l.count ≤ l.i;
  synced : EndsAtSync l.n (take l.count l.steps);
}
