use Rattle.std.proofs.Common.{◌≡◌, Some, sym, ap, ◌∙◌}
use Rattle.model_growth.specs.Growth.{first_unkept}
use Rattle.status_log.specs.declared.refusal.Refusal.TheVariants.{N15}
use Rattle.landscape.proofs.JudgedLemmas.{by_part}
use Rattle.landscape.proofs.bringing.keeps.Goals as goal

pub returns-in-None : goal.returns-in-None
returns-in-None c =
    let same : first_unkept c.args.old.now c.args.model.now ≡ c.first_unkept.result =
    ap (λ o. first_unkept o c.args.model.now) (sym c.as_lists.ensures.same) ∙ ap (first_unkept c.as_lists.result.now) (sym c.as_lists-2.ensures.same)
    ∙ sym c.first_unkept.ensures.first in
    ap by_part (same ∙ c.in-None.is)

pub returns-in_ok-path-in-Some : goal.returns-in_ok-path-in-Some
returns-in_ok-path-in-Some c =
    let same : first_unkept c.args.old.now c.args.model.now ≡ c.first_unkept.result =
    ap (λ o. first_unkept o c.args.model.now) (sym c.as_lists.ensures.same) ∙ ap (first_unkept c.as_lists.result.now) (sym c.as_lists-2.ensures.same)
    ∙ sym c.first_unkept.ensures.first in
    ap by_part (same ∙ c.in-Some.is) ∙ ap (λ path. Some (N15 path)) (sym c.in_ok-path-in-Some.ensures)
