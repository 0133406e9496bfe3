use Rattle.std.proofs.Common.{◌≡◌, ◌++◌, drop}
use Rattle.std.specs.List.{flat_map}
use Rattle.status_log.specs.declared.line.UnitLine.{UnitLine}
use Rattle.report_text.specs.Listing.{line_of, shown_unit}
use Rattle.report_text.proofs.units.put_units.Given as goal

abbrev pub invariant-loop-line : goal.invariant-loop-line
invariant-loop-line l =
    l.text.items ++ flat_map (λ (u : UnitLine). line_of (shown_unit u)) (drop l.line-index l.lines)
    ≡ l.initial.text.items ++ flat_map (λ (u : UnitLine). line_of (shown_unit u)) l.lines
