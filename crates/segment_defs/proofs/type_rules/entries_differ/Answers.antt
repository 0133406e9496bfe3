use Rattle.std.proofs.Common.{nat_eq}
use Rattle.segment_defs.proofs.RuleLemmas.{rule-passes, rule-fails, rule-holds, IsDistinct-by_recursion}
use Rattle.segment_defs.proofs.type_rules.entries_differ.Goals as goal

pub returns-then-not-has_no_entry : goal.returns-then-not-has_no_entry
returns-then-not-has_no_entry c =
    rule-fails (IsDistinct-by_recursion nat_eq (λ entry. entry.segment)) c.args.entries.now c.loop-place.place c.index-entries-place.result
    c.has_no_entry.result c.loop-place-test.true c.index-entries-place.is c.if-not-has_no_entry.true c.has_no_entry.ensures c.loop-place.invariant

pub loop-place-preserved : goal.loop-place-preserved
loop-place-preserved c =
    rule-passes (IsDistinct-by_recursion nat_eq (λ entry. entry.segment)) c.args.entries.now c.loop-place.place c.index-entries-place.result
    c.has_no_entry.result c.loop-place-test.true c.index-entries-place.is c.if-not-has_no_entry.false c.has_no_entry.ensures c.loop-place.invariant

pub returns : goal.returns
returns c =
    rule-holds (IsDistinct-by_recursion nat_eq (λ entry. entry.segment)) c.args.entries.now c.loop-place.place c.loop-place-test.false c.loop-place.invariant
