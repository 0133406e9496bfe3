use Rattle.std.proofs.Common.{◌≡◌, ◌++◌, suc, drop}
use Rattle.outbound_build.specs.Statuses.{Tracked}
use Rattle.outbound_build.specs.Tables.{AreTablesOf}
use Rattle.listings.specs.DocumentLines.{numbered, sent_line}
use Rattle.listings.proofs.document_lines.push_sent.Given as goal

abbrev pub invariant-loop-place : goal.invariant-loop-place
invariant-loop-place l = (tracked : Tracked) → AreTablesOf tracked l.outbound
    → l.lines ++ numbered (sent_line tracked.statuses) (suc l.place) (drop l.place tracked.past.documents)
    ≡ l.fn.lines ++ numbered (sent_line tracked.statuses) 1 tracked.past.documents
