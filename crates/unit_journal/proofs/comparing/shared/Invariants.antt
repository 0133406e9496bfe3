use Rattle.std.proofs.Common.{ℕ, ◌-◌, length}
use Rattle.unit_journal.specs.OnDisk.{entries_of}
use Rattle.unit_journal.proofs.LookLemmas.{IsSharedTo}
use Rattle.unit_journal.proofs.comparing.shared.Given as goal

-- the entries so far are the same
abbrev pub invariant-loop-count : goal.invariant-loop-count
invariant-loop-count l = IsSharedTo l.found (entries_of l.moments l.log) l.count

abbrev pub decreases-loop-count : goal.decreases-loop-count
decreases-loop-count l = length l.found - l.count
