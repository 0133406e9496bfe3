use Rattle.std.specs.BTreeMap.{get}
use Rattle.unit_core.specs.Systems.{lent, of_system}
use Rattle.once_check.specs.steps.Places.{keys_cmp}
use Rattle.once_check.proofs.FirstLemmas.{AreKeptTo}
use Rattle.once_check.proofs.first.first_in.Given as goal

-- the records so far keep each clause, and what they take in is counted
abbrev pub invariant-loop-place : goal.invariant-loop-place
invariant-loop-place l = AreKeptTo (of_system (lent l.committed)) (of_system (lent l.logs)) l.system l.place (get keys_cmp l.counts)
