use Rattle.std.proofs.Common.{◌≡◌, ap, ◌∙◌, ◌++◌, ◌∷◌, [], map, subst, arith}
use Rattle.std.specs.List.{range_with_len}
use Rattle.worked_cases.specs.Starts.{image_of}
use Rattle.worked_cases.proofs.HeldLemmas.{map-range_more}
use Rattle.worked_cases.proofs.starts.put_choices.Goals as goal

pub loop-choice-preserved : goal.loop-choice-preserved
loop-choice-preserved c =
    let now = c.loop-choice in
    c.in_ok-push.ensures.items ∙ ap (λ image. now.all.items ++ image ∷ []) c.in_ok-image_of.ensures
    ∙ ap (λ all. all ++ image_of c.args.vols.now c.args.moment now.choice ∷ []) now.invariant
    ∙ map-range_more (image_of c.args.vols.now c.args.moment) c.args.all.now.items now.choice

pub returns : goal.returns
returns c =
    let now = c.loop-choice in
    let end : now.choice ≡ 4 = omega (arith, now.auto.choice-end, c.loop-choice-test.false) in
    subst (λ n. now.all.items ≡ c.args.all.now.items ++ map (image_of c.args.vols.now c.args.moment) (range_with_len 0 n)) end now.invariant
