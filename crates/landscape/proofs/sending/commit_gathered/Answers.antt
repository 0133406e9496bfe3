use Rattle.std.proofs.Common.{◌≡◌, ◌∙◌, Some, Ok, sym, ap, subst}
use Rattle.std.proofs.lemmas.Result.{err_from_is_err_and}
use Rattle.unit_core.specs.declared.records.Record.TheVariants.{Commit}
use Rattle.landscape.specs.Asked.{Asked, gathered_or_none, with_room}
use Rattle.landscape.specs.steps.Judged.{JudgedCommitsOrNone}
use Rattle.landscape.proofs.JudgedLemmas.{gathered-some, refused-or_none}
use Rattle.landscape.proofs.sending.commit_gathered.Goals as goal

pub returns-in_err-wanted : goal.returns-in_err-wanted
returns-in_err-wanted c log are same model is =
    let name = c.args.name.now in
    let docs = c.args.docs in
    let asks : gathered_or_none (with_room log) name docs ≡ with_room log (Commit (Some c.in_ok-origin.origin) docs) =
    gathered-some (with_room log) name docs (λ none. let is_none = c.is_empty.ensures.1 none in let isnt = c.if-is_empty.false in cc)
    ∙ ap (λ o. with_room log (Commit (Some o) docs)) (sym c.in_ok-origin.ensures) in
    let p = err_from_is_err_and c.from_residual-in_err-wanted.result c.from_residual-in_err-wanted.ensures.1 in
    rw (p.1, p.2) (refused-or_none log (gathered_or_none (with_room log) name docs) (with_room log (Commit (Some c.in_ok-origin.origin) docs))
    c.in_err-wanted.field-0.0 asks (c.in_err-wanted.ensures log are same model is))

pub returns : goal.returns
returns c log are same model is =
    let name = c.args.name.now in
    let docs = c.args.docs in
    let asks : gathered_or_none (with_room log) name docs ≡ with_room log (Commit (Some c.in_ok-origin.origin) docs) =
    gathered-some (with_room log) name docs (λ none. let is_none = c.is_empty.ensures.1 none in let isnt = c.if-is_empty.false in cc)
    ∙ ap (λ o. with_room log (Commit (Some o) docs)) (sym c.in_ok-origin.ensures) in
    subst (λ (asked : Asked). JudgedCommitsOrNone log asked (Ok (Some c.in_ok-wanted.wanted))) (sym asks) (c.in_ok-wanted.ensures log are same model is)
