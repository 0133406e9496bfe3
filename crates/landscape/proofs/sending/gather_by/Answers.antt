use Rattle.std.proofs.Common.{◌≡◌, ◌∙◌, Some, sym, subst}
use Rattle.dist_model.specs.Model.{message_named}
use Rattle.landscape.specs.Asked.{Asked}
use Rattle.landscape.specs.steps.Judged.{JudgedCommitsOrNone}
use Rattle.landscape.proofs.JudgedLemmas.{gather-known, named-there, named-within}
use Rattle.landscape.proofs.sending.gather_by.Goals as goal

pub gather_for-requires : goal.gather_for-requires
gather_for-requires c =
    let named : message_named c.args.name.now c.args.model.now ≡ Some c.in-Some.message = sym c.message.ensures.found ∙ c.in-Some.is in
    record { known = named-within c.args.model.now c.as_lists.ensures.kept c.args.name.now c.in-Some.message named }

pub returns-in-Some : goal.returns-in-Some
returns-in-Some c log are same is =
    let named : message_named c.args.name.now c.args.model.now ≡ Some c.in-Some.message = sym c.message.ensures.found ∙ c.in-Some.is in
    let there = named-there c.args.model.now c.as_lists.ensures.kept c.args.name.now c.in-Some.message named in
    subst (λ (asked : Asked). JudgedCommitsOrNone log asked c.gather_for.result)
    (sym (gather-known log c.args.model.now is c.args.name.now c.in-Some.message there.0 named there.1)) (c.gather_for.ensures log are same is there.0 there.1)
