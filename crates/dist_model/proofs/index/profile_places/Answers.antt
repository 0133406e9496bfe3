use Rattle.std.specs.Prelude.{position, slice_get}
use Rattle.std.proofs.Common.{◌≡◌, ◌++◌, ◌∷◌, [], Some, ap, sym, ◌∙◌}
use Rattle.std.proofs.lemmas.Option.{slice_get-get_or}
use Rattle.ale_base.proofs.ListLemmas.{AllByRecursion-at}
use Rattle.dist_model.specs.declared.row.Row.{Row}
use Rattle.dist_model.specs.Way.{outbound_ways, row_way, same_way}
use Rattle.dist_model.specs.Model.{HasProfile}
use Rattle.dist_model.proofs.IndexLemmas.{is_some, places_more, position-found}
use Rattle.dist_model.proofs.index.profile_places.Goals as goal

pub unwrap-place-requires : goal.unwrap-place-requires
unwrap-place-requires c =
    let row = c.row-item.result in
    let place = c.loop-row.row-index in
    let here : slice_get c.args.rows.now place ≡ Some row = slice_get-get_or c.args.rows.now place row c.loop-row-test.true ∙ ap Some (sym c.row-item.is) in
    let there : HasProfile c.args.profiles.now row = AllByRecursion-at (HasProfile c.args.profiles.now) c.args.rows.now place row c.requires.there here in
    let found : position (same_way (row_way row)) (outbound_ways c.args.profiles.now) ≡ c.place.result =
    ap (λ w. position (same_way w) (outbound_ways c.args.profiles.now)) (sym c.row_way.ensures)
    ∙ ap (position (same_way c.row_way.result)) (sym c.in_ok-ways.ensures) ∙ sym c.place.ensures.place in
    is_some c.place.result (λ none. position-found (same_way (row_way row)) (outbound_ways c.args.profiles.now) there (found ∙ none))

pub loop-row-preserved : goal.loop-row-preserved
loop-row-preserved c =
    let row = c.row-item.result in
    let found : position (same_way (row_way row)) (outbound_ways c.args.profiles.now) ≡ c.place.result =
    ap (λ w. position (same_way w) (outbound_ways c.args.profiles.now)) (sym c.row_way.ensures)
    ∙ ap (position (same_way c.row_way.result)) (sym c.in_ok-ways.ensures) ∙ sym c.place.ensures.place in
    let pushed : c.push.new.self ≡ c.loop-row.places ++ c.unwrap-place.result ∷ [] = c.in_ok-push.ensures.ok in
    rw pushed (places_more (λ (row : Row). position (same_way (row_way row)) (outbound_ways c.args.profiles.now)) c.args.rows.now c.loop-row.row-index row
    c.loop-row.places c.unwrap-place.result
    c.row-item.is c.loop-row-test.true c.loop-row.invariant (found ∙ c.unwrap-place.ensures))
