use Rattle.std.proofs.Common.{◌≡◌, ◌++◌, drop, map}
use Rattle.listings.specs.History.{history_line}
use Rattle.listings.proofs.document_history.lines_of.Given as goal

abbrev pub invariant-loop-one : goal.invariant-loop-one
invariant-loop-one l = l.lines ++ map (history_line l.moments) (drop l.one-index l.statuses) ≡ map (history_line l.moments) l.statuses
