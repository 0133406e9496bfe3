use Rattle.std.proofs.Common.{rules, tests}
use Rattle.std.proofs.lemmas.Iterator.{YieldsList-from_slice, cases_from_all}
use Rattle.segment_defs.specs.Version.{IsVersion}
use Rattle.ale_base.proofs.ListLemmas.{all-decided}
use Rattle.segment_defs.proofs.rules.are_valid_versions.Goals as goal

pub returns : goal.returns
returns c =
    let versions = c.args.versions.now in
    all-decided IsVersion versions c.all.result
    (cases_from_all _ _ c.all.result IsVersion (λ version. IsVersion version → ⊥) c.all.ensures.ran (YieldsList-from_slice versions cc)
    (λ x q k. search (rules, tests)) (λ x q k. search (rules, tests)))
