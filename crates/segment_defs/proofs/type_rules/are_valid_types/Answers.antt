use Rattle.std.proofs.Common.{rules, tests}
use Rattle.std.proofs.lemmas.Iterator.{YieldsList-from_slice, cases_from_all}
use Rattle.segment_defs.specs.SegmentType.{IsSegmentType}
use Rattle.ale_base.proofs.ListLemmas.{all-decided}
use Rattle.segment_defs.proofs.type_rules.are_valid_types.Goals as goal

pub returns : goal.returns
returns c =
    let types = c.args.types.now in
    all-decided IsSegmentType types c.all.result
    (cases_from_all _ _ c.all.result IsSegmentType (λ segment. IsSegmentType segment → ⊥) c.all.ensures.ran (YieldsList-from_slice types cc)
    (λ x q k. search (rules, tests)) (λ x q k. search (rules, tests)))
