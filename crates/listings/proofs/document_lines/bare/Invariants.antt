use Rattle.std.proofs.Common.{◌≡◌, ◌++◌, drop}
use Rattle.status_log.specs.Statuses.{bare}
use Rattle.listings.proofs.document_lines.bare.Given as goal

abbrev pub invariant-loop-one : goal.invariant-loop-one
invariant-loop-one l = l.alone ++ bare (drop l.one-index l.statuses) ≡ bare l.statuses
