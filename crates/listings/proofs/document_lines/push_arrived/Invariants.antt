use Rattle.std.proofs.Common.{◌≡◌, ◌++◌, suc, drop}
use Rattle.inbound_post.specs.Application.{Application}
use Rattle.inbound_post.specs.Tables.{AreTablesOf}
use Rattle.listings.specs.DocumentLines.{arrived_line, numbered}
use Rattle.listings.proofs.document_lines.push_arrived.Given as goal

abbrev pub invariant-loop-place : goal.invariant-loop-place
invariant-loop-place l = (application : Application) → AreTablesOf application l.inbound
    → l.lines ++ numbered arrived_line (suc l.place) (drop l.place application.documents)
    ≡ l.fn.lines ++ numbered arrived_line 1 application.documents
