use Rattle.std.proofs.Common.{◌≡◌, length}
use Rattle.unit_journal.specs.OnDisk.{entries_of}
use Rattle.unit_journal.proofs.volume.parted.Given as goal

-- the moments and the records so far are those of the entries so far
abbrev pub invariant-loop-entry : goal.invariant-loop-entry
invariant-loop-entry l = record {
  each : length l.moments ≡ length l.log;
  are : entries_of l.moments l.log ≡ l.yielded;
}
