use Rattle.std.proofs.Common.{◌-◌, length}
use Rattle.byte_journal.proofs.ReadLemmas.{IsReadTo}
use Rattle.byte_journal.proofs.read_log.read_log.Given as goal

abbrev pub invariant-records : goal.invariant-records
invariant-records l = IsReadTo l.bytes l.log l.gate

abbrev pub decreases-records : goal.decreases-records
decreases-records l = length l.bytes - l.gate
