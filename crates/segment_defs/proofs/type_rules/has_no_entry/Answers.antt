use Rattle.std.proofs.Common.{not, nat_eq, rules, tests, Bool}
use Rattle.std.proofs.lemmas.Iterator.{YieldsList-from_slice}
use Rattle.std.proofs.lemmas.Iterator.Search.{all_from_yields_List}
use Rattle.segment_defs.specs.declared.idoc_type.TypePlace.{TypePlace}
use Rattle.ale_base.proofs.ListLemmas.{differs-decided}
use Rattle.segment_defs.proofs.type_rules.has_no_entry.Goals as goal

pub returns : goal.returns
returns c =
    let segment = c.args.segment in
    let test : TypePlace → Bool = λ entry. not (nat_eq segment entry.segment) in
    differs-decided nat_eq (λ entry. entry.segment) segment c.args.entries.now c.all.result
    (all_from_yields_List test _ _ c.all.result c.all.ensures.ran (YieldsList-from_slice c.args.entries.now cc) (λ x b q k. search (rules, tests)))
