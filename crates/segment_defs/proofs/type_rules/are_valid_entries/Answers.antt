use Rattle.std.proofs.Common.{rules, tests}
use Rattle.std.proofs.lemmas.Iterator.{YieldsList-from_slice, cases_from_all}
use Rattle.segment_defs.specs.IdocType.{IsEntry}
use Rattle.segment_defs.specs.declared.idoc_type.TypePlace.{TypePlace}
use Rattle.ale_base.proofs.ListLemmas.{all-decided}
use Rattle.segment_defs.proofs.type_rules.are_valid_entries.Goals as goal

pub returns : goal.returns
returns c =
    let entries = c.args.entries.now in
    let IsOne : TypePlace → Type 0 = IsEntry c.args.definitions.now in
    all-decided IsOne entries c.all.result (cases_from_all _ _ c.all.result IsOne (λ entry. IsOne entry → ⊥) c.all.ensures.ran
    (YieldsList-from_slice entries cc) (λ x q k. search (rules, tests)) (λ x q k. search (rules, tests)))
