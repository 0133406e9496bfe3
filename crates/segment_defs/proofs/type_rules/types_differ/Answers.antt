use Rattle.ale_base.specs.Text.{is_text}
use Rattle.segment_defs.specs.Definitions.{names_of}
use Rattle.segment_defs.proofs.RuleLemmas.{rule-passes, rule-fails, rule-holds, IsDistinct-by_lists}
use Rattle.segment_defs.proofs.type_rules.types_differ.Goals as goal

pub returns-then-not-are_its_own : goal.returns-then-not-are_its_own
returns-then-not-are_its_own c =
    rule-fails (IsDistinct-by_lists is_text names_of) c.args.types.now c.loop-place.place c.index-types-place.result c.are_its_own.result c.loop-place-test.true
    c.index-types-place.is c.if-not-are_its_own.true c.are_its_own.ensures c.loop-place.invariant

pub loop-place-preserved : goal.loop-place-preserved
loop-place-preserved c =
    rule-passes (IsDistinct-by_lists is_text names_of) c.args.types.now c.loop-place.place c.index-types-place.result c.are_its_own.result
    c.loop-place-test.true c.index-types-place.is c.if-not-are_its_own.false c.are_its_own.ensures c.loop-place.invariant

pub returns : goal.returns
returns c =
    rule-holds (IsDistinct-by_lists is_text names_of) c.args.types.now c.loop-place.place c.loop-place-test.false c.loop-place.invariant
