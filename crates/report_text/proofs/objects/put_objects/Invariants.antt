use Rattle.std.proofs.Common.{◌≡◌, ◌++◌, drop}
use Rattle.std.specs.List.{flat_map}
use Rattle.status_log.specs.declared.line.ObjectLine.{ObjectLine}
use Rattle.report_text.specs.Listing.{line_of, shown_object}
use Rattle.report_text.proofs.objects.put_objects.Given as goal

abbrev pub invariant-loop-line : goal.invariant-loop-line
invariant-loop-line l =
    l.text.items ++ flat_map (λ (o : ObjectLine). line_of (shown_object o)) (drop l.line-index l.lines)
    ≡ l.initial.text.items ++ flat_map (λ (o : ObjectLine). line_of (shown_object o)) l.lines
