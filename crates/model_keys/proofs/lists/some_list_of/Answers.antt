use Rattle.std.proofs.Common.{◌≤◌, length, arith}
use Rattle.std.proofs.lemmas.Bool.Decides.{nat_tests}
use Rattle.toml.specs.View.{view}
use Rattle.model_keys.proofs.KeysLemmas.{some_list_of-some}
use Rattle.model_keys.proofs.lists.some_list_of.Goals as goal

pub returns-clause-given : goal.returns-clause-given
returns-clause-given c =
    let values = c.in_ok-values.values.now in
    let some : 1 ≤ length values = grind (arith, nat_tests, c.is_empty.ensures, c.if-is_empty.false) in
    some_list_of-some c.args.most c.args.key.now (view c.args.value.now) values c.in_ok-values.ensures.given some
