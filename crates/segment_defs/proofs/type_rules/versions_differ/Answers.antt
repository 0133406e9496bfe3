use Rattle.ale_base.specs.Text.{is_text}
use Rattle.segment_defs.proofs.RuleLemmas.{rule-passes, rule-fails, rule-holds, IsDistinct-by_recursion}
use Rattle.segment_defs.proofs.type_rules.versions_differ.Goals as goal

pub returns-then-not-is_no_version : goal.returns-then-not-is_no_version
returns-then-not-is_no_version c =
    rule-fails (IsDistinct-by_recursion is_text (λ version. version.name)) c.args.versions.now c.loop-place.place c.index-versions-place.result
    c.is_no_version.result c.loop-place-test.true c.index-versions-place.is c.if-not-is_no_version.true c.is_no_version.ensures c.loop-place.invariant

pub loop-place-preserved : goal.loop-place-preserved
loop-place-preserved c =
    rule-passes (IsDistinct-by_recursion is_text (λ version. version.name)) c.args.versions.now c.loop-place.place c.index-versions-place.result
    c.is_no_version.result c.loop-place-test.true c.index-versions-place.is c.if-not-is_no_version.false c.is_no_version.ensures c.loop-place.invariant

pub returns : goal.returns
returns c =
    rule-holds (IsDistinct-by_recursion is_text (λ version. version.name)) c.args.versions.now c.loop-place.place c.loop-place-test.false c.loop-place.invariant
