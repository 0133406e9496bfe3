use Rattle.std.proofs.Common.{ap, ◌∙◌, ◌++◌, ◌∷◌, []}
use Rattle.worked_cases.specs.Starts.{contents_of}
use Rattle.worked_cases.proofs.HeldLemmas.{map-item_more}
use Rattle.worked_cases.proofs.starts.contents_of_all.Goals as goal

pub loop-vols-preserved : goal.loop-vols-preserved
loop-vols-preserved c =
    let now = c.loop-vols in
    let vols = c.vols-item.result in
    c.in_ok-push.ensures.items ∙ ap (λ contents. now.all.items ++ contents ∷ []) c.in_ok-contents_of.ensures
    ∙ ap (λ all. all ++ contents_of vols ∷ []) now.invariant
    ∙ map-item_more contents_of [] c.args.before.now now.vols-index vols c.loop-vols-test.true c.vols-item.is
