use Rattle.unit_journal.proofs.ReadLemmas.{IsReadTo}
use Rattle.unit_journal.proofs.entries.read_entries.Given as goal

-- the bodies so far are the spellings of the entries so far
abbrev pub invariant-loop-body : goal.invariant-loop-body
invariant-loop-body l = IsReadTo l.bodies l.body-index l.entries
