use Rattle.ale_base.specs.Text.{is_text}
use Rattle.segment_defs.proofs.RuleLemmas.{rule-passes, rule-fails, rule-holds, IsDistinct-by_recursion}
use Rattle.segment_defs.proofs.rules.fields_differ.Goals as goal

pub returns-then-not-is_no_field : goal.returns-then-not-is_no_field
returns-then-not-is_no_field c =
    rule-fails (IsDistinct-by_recursion is_text (λ field. field.name)) c.args.fields.now c.loop-place.place c.index-fields-place.result c.is_no_field.result
    c.loop-place-test.true c.index-fields-place.is c.if-not-is_no_field.true c.is_no_field.ensures c.loop-place.invariant

pub loop-place-preserved : goal.loop-place-preserved
loop-place-preserved c =
    rule-passes (IsDistinct-by_recursion is_text (λ field. field.name)) c.args.fields.now c.loop-place.place c.index-fields-place.result c.is_no_field.result
    c.loop-place-test.true c.index-fields-place.is c.if-not-is_no_field.false c.is_no_field.ensures c.loop-place.invariant

pub returns : goal.returns
returns c =
    rule-holds (IsDistinct-by_recursion is_text (λ field. field.name)) c.args.fields.now c.loop-place.place c.loop-place-test.false c.loop-place.invariant
