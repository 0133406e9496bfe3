use Rattle.std.proofs.Common.{◌++◌, List, map, ap, ◌∙◌}
use Rattle.status_log.specs.declared.line.UnitLine.{UnitLine}
use Rattle.listings.specs.steps.Kept.{arrived_kept_line, sent_kept_line}
use Rattle.listings.proofs.UnitLemmas.{all-lines}
use Rattle.listings.proofs.unit_lines.units.Goals as goal

pub returns : goal.returns
returns c committed log sent arrived are =
    let tables = c.args.tables.now in
    c.in_ok-push_arrived.ensures log are.application
    ∙ ap (λ (lines : List UnitLine). lines ++ map (arrived_kept_line tables log) tables.received)
    (c.in_ok-push_sent.ensures log are.application ∙ ap (λ (lines : List UnitLine). lines ++ map (sent_kept_line tables log) tables.units) c.new-lines.ensures)
    ∙ all-lines committed log sent arrived tables are
