use Rattle.std.proofs.Common.{◌≡◌, false, List, ℕ, rules, tests}
use Rattle.std.specs.List.{AllByRecursion, flat_map}
use Rattle.std.proofs.lemmas.Iterator.{YieldsList-from_slice, cases_from_all}
use Rattle.ale_base.specs.Text.{is_text}
use Rattle.segment_defs.specs.Definitions.{names_of}
use Rattle.segment_defs.specs.declared.version.Version.{Version}
use Rattle.ale_base.proofs.ListLemmas.{all-decided, AllByRecursion-map, AllByRecursion-from_map}
use Rattle.segment_defs.proofs.type_rules.are_no_types.Goals as goal

pub returns : goal.returns
returns c =
    let versions = c.args.versions.now in
    let IsNew : List ℕ → Type 0 = λ name. AllByRecursion (λ other. is_text name other ≡ false) (flat_map names_of c.args.types.now) in
    let IsApart : Version → Type 0 = λ version. IsNew version.name in
    let all = all-decided IsApart versions c.all.result
    (cases_from_all _ _ c.all.result IsApart (λ version. IsApart version → ⊥) c.all.ensures.ran (YieldsList-from_slice versions cc)
    (λ x q k. search (rules, tests)) (λ x q k. search (rules, tests))) in (
      λ true. AllByRecursion-map IsNew (λ version. version.name) versions (all.0 true),
      λ whole. all.1 (AllByRecursion-from_map IsNew (λ version. version.name) versions whole),
    )
