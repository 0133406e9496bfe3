use Rattle.std.proofs.Common.{◌+◌, ◌++◌, Option, [], map, ap, ◌∙◌, arith}
use Rattle.std.specs.List.{cons_option}
use Rattle.std.specs.Option.{option_map}
use Rattle.unit_core.specs.declared.ale_unit.AleUnit.{AleUnit}
use Rattle.listings.specs.steps.Kept.{sent_kept_line}
use Rattle.listings.proofs.UnitLemmas.{mapped-step, numbered-at}
use Rattle.listings.proofs.unit_lines.push_sent.Goals as goal

pub loop-place-preserved : goal.loop-place-preserved
loop-place-preserved c log are =
    let place = c.loop-place.place in
    let tables = c.args.tables.now in
    mapped-step (sent_kept_line tables log) place (place + 1) tables.units c.loop-place.lines c.push_sent_at.new.lines
    (c.args.lines.now ++ map (sent_kept_line tables log) tables.units) (omega arith) (c.loop-place.invariant log are)
    (c.in_ok-push_sent_at.ensures log are
    ∙ ap (λ (o : Option AleUnit). c.loop-place.lines ++ cons_option (option_map (sent_kept_line tables log) o) [])
    (numbered-at place (place + 1) tables.units (omega arith)))
