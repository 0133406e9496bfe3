use Rattle.std.proofs.Common.{not, rules, tests, Bool}
use Rattle.std.proofs.lemmas.Iterator.{YieldsList-from_slice}
use Rattle.std.proofs.lemmas.Iterator.Search.{all_from_yields_List}
use Rattle.ale_base.specs.Text.{is_text}
use Rattle.segment_defs.specs.declared.field.Field.{Field}
use Rattle.ale_base.proofs.ListLemmas.{differs-decided}
use Rattle.segment_defs.proofs.rules.is_no_field.Goals as goal

pub returns : goal.returns
returns c =
    let name = c.args.name.now in
    let test : Field → Bool = λ field. not (is_text name field.name) in
    differs-decided is_text (λ field. field.name) name c.args.fields.now c.all.result
    (all_from_yields_List test _ _ c.all.result c.all.ensures.ran (YieldsList-from_slice c.args.fields.now cc) (λ x b q k. search (rules, tests)))
