use Rattle.std.proofs.Common.{ap, ◌∙◌, ◌++◌, []}
use Rattle.worked_cases.specs.Starts.{images}
use Rattle.worked_cases.proofs.HeldLemmas.{flat_map-item_more}
use Rattle.worked_cases.proofs.starts.crashes_of_all.Goals as goal

pub loop-vols-preserved : goal.loop-vols-preserved
loop-vols-preserved c =
    let now = c.loop-vols in
    let vols = c.vols-item.result in
    c.in_ok-put_images.ensures ∙ ap (λ all. all ++ images vols) now.invariant
    ∙ flat_map-item_more images [] c.args.before.now now.vols-index vols c.loop-vols-test.true c.vols-item.is
