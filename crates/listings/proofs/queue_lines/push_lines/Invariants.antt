use Rattle.std.proofs.Common.{◌≡◌, ◌++◌, List, map, take}
use Rattle.unit_core.specs.declared.records.Record.{Record}
use Rattle.document_state.specs.Tables.{AreTablesOf}
use Rattle.listings.specs.QueueLines.{queue_line}
use Rattle.listings.proofs.queue_lines.push_lines.Given as goal

abbrev pub invariant-loop-count : goal.invariant-loop-count
invariant-loop-count l = (log : List Record) → AreTablesOf log l.documents
    → l.lines ≡ l.fn.lines ++ map (queue_line l.way log) (take l.count-index l.counts)
