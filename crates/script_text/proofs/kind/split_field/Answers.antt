use Rattle.std.proofs.Common.{◌+◌, sym, add-one, eqb-true}
use Rattle.std.proofs.lemmas.List.{take_rest}
use Rattle.script_text.proofs.FieldLemmas.{split_at, no_sign}
use Rattle.script_text.proofs.kind.split_field.Goals as goal

pub returns-in-Some-clause-field : goal.returns-in-Some-clause-field
returns-in-Some-clause-field c =
    let found = c.in-Some.ensures in
    sym (split_at c.args.word.now c.in-Some.sign found.0.high (eqb-true _ 61 found.1) found.0.before).0

pub returns-in-Some-clause-value : goal.returns-in-Some-clause-value
returns-in-Some-clause-value c =
    let found = c.in-Some.ensures in
    rw (take_rest c.args.word.now (c.in-Some.sign + 1), add-one)
    (sym (split_at c.args.word.now c.in-Some.sign found.0.high (eqb-true _ 61 found.1) found.0.before).1)

pub returns-in-None-clause-field : goal.returns-in-None-clause-field
returns-in-None-clause-field c = sym (no_sign c.args.word.now c.in-None.ensures).0

pub returns-in-None-clause-value : goal.returns-in-None-clause-value
returns-in-None-clause-value c = sym (no_sign c.args.word.now c.in-None.ensures).1
