use Rattle.std.proofs.Common.{◌<◌}
use Rattle.ale_base.proofs.ListLemmas.{AllByRecursion-at}
use Rattle.std.proofs.Common.{◌≡◌, Some, ap, sym, ◌∙◌}
use Rattle.std.proofs.lemmas.Option.{slice_get-get_or}
use Rattle.std.specs.Prelude.{slice_get}
use Rattle.dist_model.specs.declared.row.Row.{Row}
use Rattle.dist_model.proofs.IndexLemmas.{rows_more}
use Rattle.dist_model.proofs.index.rows_by_message.Goals as goal

pub loop-place-preserved : goal.loop-place-preserved
loop-place-preserved c =
    let row = c.index-rows-place.result in
    let place = c.loop-place.place in
    let here : slice_get c.args.rows.now place ≡ Some row = slice_get-get_or c.args.rows.now place row c.loop-place-test.true
    ∙ ap Some (sym c.index-rows-place.is) in
    let known : row.message < c.args.messages = AllByRecursion-at (λ (row : Row). row.message < c.args.messages) c.args.rows.now place row c.requires.known
    here in
    let at : c.from.result ≡ row.message = c.from.ensures ∙ ap (λ (r : Row). r.message) c.row.view_is in
    rw at (rows_more c.args.messages c.args.rows.now c.loop-place.lists place row c.at_mut.result.now c.push.new.self c.index-rows-place.is
    c.loop-place-test.true known
    c.loop-place.invariant.0 c.loop-place.invariant.1 (ap (λ m. slice_get c.loop-place.lists m) (sym at) ∙ c.at_mut.ensures.value) c.in_ok-push.ensures.ok)
