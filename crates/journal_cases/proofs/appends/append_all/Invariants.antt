use Rattle.std.proofs.Common.{ℕ, List}
use Rattle.byte_journal.specs.Settled.{IsSettled}
use Rattle.journal_cases.proofs.appends.append_all.Given as goal

abbrev pub invariant-bodies : goal.invariant-bodies
invariant-bodies g l = g.V.Volumes.disk.told → (log : List (List ℕ)) × IsSettled g.V.Volumes.disk l.vols l.journal log
