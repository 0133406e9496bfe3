use Rattle.std.proofs.Common.{◌≡◌, ◌++◌, drop}
use Rattle.std.specs.List.{flat_map}
use Rattle.std.specs.Prelude.{codes}
use Rattle.status_log.specs.declared.status.Status.{Status}
use Rattle.report_text.specs.Listing.{shown_status}
use Rattle.report_text.proofs.joining.put_more_statuses.Given as goal

abbrev pub invariant-loop-status : goal.invariant-loop-status
invariant-loop-status l =
    l.text.items ++ flat_map (λ (s : Status). codes "," ++ shown_status s) (drop l.status-index l.statuses)
    ≡ l.initial.text.items ++ flat_map (λ (s : Status). codes "," ++ shown_status s) l.statuses
