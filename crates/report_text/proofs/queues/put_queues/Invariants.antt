use Rattle.std.proofs.Common.{◌≡◌, ◌++◌, drop}
use Rattle.std.specs.List.{flat_map}
use Rattle.status_log.specs.declared.line.QueueLine.{QueueLine}
use Rattle.report_text.specs.Listing.{line_of, shown_queue}
use Rattle.report_text.proofs.queues.put_queues.Given as goal

abbrev pub invariant-loop-line : goal.invariant-loop-line
invariant-loop-line l =
    l.text.items ++ flat_map (λ (q : QueueLine). line_of (shown_queue q)) (drop l.line-index l.lines)
    ≡ l.initial.text.items ++ flat_map (λ (q : QueueLine). line_of (shown_queue q)) l.lines
