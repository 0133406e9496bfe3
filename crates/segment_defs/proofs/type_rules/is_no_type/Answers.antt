use Rattle.std.proofs.Common.{◌≡◌, false, List, ℕ, rules, tests}
use Rattle.std.specs.List.{AllByRecursion}
use Rattle.std.proofs.lemmas.Iterator.{YieldsList-from_slice, cases_from_all}
use Rattle.ale_base.specs.Text.{is_text}
use Rattle.segment_defs.specs.Definitions.{names_of}
use Rattle.segment_defs.specs.declared.segment_type.SegmentType.{SegmentType}
use Rattle.ale_base.proofs.ListLemmas.{all-decided, AllByRecursion-flat_map}
use Rattle.segment_defs.proofs.type_rules.is_no_type.Goals as goal

pub returns : goal.returns
returns c =
    let types = c.args.types.now in
    let Differs : List ℕ → Type 0 = λ other. is_text c.args.name.now other ≡ false in
    let Differ : SegmentType → Type 0 = λ segment. AllByRecursion Differs (names_of segment) in
    let all = all-decided Differ types c.all.result
    (cases_from_all _ _ c.all.result Differ (λ segment. Differ segment → ⊥) c.all.ensures.ran (YieldsList-from_slice types cc)
    (λ x q k. search (rules, tests)) (λ x q k. search (rules, tests))) in
    let joined = AllByRecursion-flat_map Differs names_of types in
    (λ true. joined.0 (all.0 true), λ whole. all.1 (joined.1 whole))
