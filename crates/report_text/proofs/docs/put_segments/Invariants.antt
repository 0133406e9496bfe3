use Rattle.std.proofs.Common.{◌≡◌, ◌++◌, drop}
use Rattle.std.specs.List.{flat_map}
use Rattle.status_log.specs.declared.line.SegmentLine.{SegmentLine}
use Rattle.report_text.specs.Listing.{line_of, shown_segment}
use Rattle.report_text.proofs.docs.put_segments.Given as goal

abbrev pub invariant-loop-line : goal.invariant-loop-line
invariant-loop-line l =
    l.text.items ++ flat_map (λ (s : SegmentLine). line_of (shown_segment l.control s)) (drop l.line-index l.lines)
    ≡ l.initial.text.items ++ flat_map (λ (s : SegmentLine). line_of (shown_segment l.control s)) l.lines
