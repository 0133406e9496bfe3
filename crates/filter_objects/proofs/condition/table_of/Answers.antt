use Rattle.std.specs.List.{list_any}
use Rattle.std.proofs.Common.{◌+◌, ◌||◌, ◌++◌, [], ◌∷◌, not, drop, ap, sym, ◌∙◌}
use Rattle.ale_base.specs.Text.{is_text}
use Rattle.idoc_tree.proofs.NodeLemmas.{drop-here}
use Rattle.filter_objects.proofs.PassingLemmas.{one_more_value}
use Rattle.filter_objects.proofs.condition.table_of.Goals as goal

pub loop-value-preserved : goal.loop-value-preserved
loop-value-preserved c = λ text.
    let values = c.args.values.now in
    let at = c.loop-value.value-index in
    let value = c.value-item.result in
    let rest = drop (at + 1) values in
    one_more_value c.loop-value.table c.add.new.self value rest c.in_ok-add.field-0
    (c.in_ok-add.ensures.new ∙ ap (λ v. not (list_any (is_text v) c.loop-value.table)) c.as_slice.ensures)
    (λ new. c.in_ok-add.ensures.added new ∙ ap (λ v. c.loop-value.table ++ v ∷ []) c.as_slice.ensures)
    c.in_ok-add.ensures.known text
    ∙ ap (λ vs. list_any (is_text text) c.loop-value.table || list_any (is_text text) vs)
    (sym (drop-here values at value c.loop-value-test.true c.value-item.is))
    ∙ c.loop-value.invariant text
