use Rattle.std.proofs.Common.{◌≡◌, ◌++◌, List, map, take}
use Rattle.unit_core.specs.declared.records.Record.{Record}
use Rattle.document_state.specs.Tables.{AreTablesOf}
use Rattle.listings.specs.steps.Kept.{arrived_kept_line}
use Rattle.listings.proofs.unit_lines.push_arrived.Given as goal

abbrev pub invariant-loop-tid : goal.invariant-loop-tid
invariant-loop-tid l = (log : List Record) → AreTablesOf log l.tables.application
    → l.lines ≡ l.fn.lines ++ map (arrived_kept_line l.tables log) (take l.tid-index l.received)
