use Rattle.std.proofs.Common.{◌≡◌, ◌++◌, drop}
use Rattle.std.specs.List.{flat_map}
use Rattle.status_log.specs.declared.line.HistoryLine.{HistoryLine}
use Rattle.report_text.specs.Listing.{line_of, shown_history}
use Rattle.report_text.proofs.history.put_history.Given as goal

abbrev pub invariant-loop-line : goal.invariant-loop-line
invariant-loop-line l =
    l.text.items ++ flat_map (λ (h : HistoryLine). line_of (shown_history h)) (drop l.line-index l.lines)
    ≡ l.initial.text.items ++ flat_map (λ (h : HistoryLine). line_of (shown_history h)) l.lines
