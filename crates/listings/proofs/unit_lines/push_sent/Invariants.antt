use Rattle.std.proofs.Common.{◌≡◌, ◌++◌, List, drop, map}
use Rattle.unit_core.specs.declared.records.Record.{Record}
use Rattle.document_state.specs.Tables.{AreTablesOf}
use Rattle.listings.specs.steps.Kept.{sent_kept_line}
use Rattle.listings.proofs.unit_lines.push_sent.Given as goal

abbrev pub invariant-loop-place : goal.invariant-loop-place
invariant-loop-place l = (log : List Record) → AreTablesOf log l.tables.application
    → l.lines ++ map (sent_kept_line l.tables log) (drop l.place l.tables.units) ≡ l.fn.lines ++ map (sent_kept_line l.tables log) l.tables.units
