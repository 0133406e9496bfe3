use Rattle.segment_defs.proofs.TypeRuleLemmas.{preorder-more, preorder-fails}
use Rattle.segment_defs.proofs.type_rules.are_in_preorder.Goals as goal

pub returns-then-not-can_follow : goal.returns-then-not-can_follow
returns-then-not-can_follow c =
    preorder-fails c.args.entries.now c.loop-place.place c.index-entries-place.result c.loop-place-test.true c.index-entries-place.is c.can_follow.result
    c.can_follow.ensures c.if-not-can_follow.true

pub loop-place-preserved : goal.loop-place-preserved
loop-place-preserved c =
    preorder-more c.args.entries.now c.loop-place.place c.index-entries-place.result c.loop-place-test.true c.index-entries-place.is c.can_follow.result
    c.can_follow.ensures c.if-not-can_follow.false c.loop-place.invariant
