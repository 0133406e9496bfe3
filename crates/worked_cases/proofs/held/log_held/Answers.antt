use Rattle.std.specs.Prelude.{IfOk}
use Rattle.std.proofs.Common.{◌≡◌, ap, List, ℕ, ◌∙◌, subst, [], ◌-◌, ◌<◌, get_or, length, arith}
use Rattle.std.proofs.lemmas.List.{get_or_default}
use Rattle.byte_journal.specs.Log.{Stands}
use Rattle.worked_cases.proofs.held.log_held.Goals as goal

pub returns : goal.returns
returns c =
    let contents = c.args.contents.now in
    let place = c.from.ensures ∙ ap (λ n. n - 1) c.get.ensures.number in
    let within : c.from.result < length contents = omega (arith, place, c.type_inv.contents, c.get.ensures.most, c.get.ensures.least) in
    let held =
    c.as_slice-held.ensures ∙ get_or_default contents c.from.result c.index-contents-from.result [] within
    ∙ ap (λ n. get_or contents n []) place in
    subst (λ (bytes : List ℕ). IfOk c.log_of.result (λ log. (its : List (List ℕ)) → Stands bytes its → log ≡ its)) held c.log_of.ensures
