use Rattle.std.proofs.Common.{◌≡◌, ◌++◌, drop}
use Rattle.std.specs.List.{flat_map}
use Rattle.status_log.specs.declared.line.DocLine.{DocLine}
use Rattle.report_text.specs.Listing.{line_of, shown_doc}
use Rattle.report_text.proofs.docs.put_docs.Given as goal

abbrev pub invariant-loop-line : goal.invariant-loop-line
invariant-loop-line l =
    l.text.items ++ flat_map (λ (d : DocLine). line_of (shown_doc d)) (drop l.line-index l.lines)
    ≡ l.initial.text.items ++ flat_map (λ (d : DocLine). line_of (shown_doc d)) l.lines
