use Rattle.std.proofs.Common.{◌≡◌, ◌++◌, ◌∷◌, List, [], sym, ◌∙◌, ap}
use Rattle.toml.specs.Data.{Data}
use Rattle.std.proofs.lemmas.List.{map_push}
use Rattle.model_profiles.specs.Rows.{row_of, row_ways}
use Rattle.model_profiles.specs.declared.keys.TheConstants.{ROW}
use Rattle.dist_model.specs.declared.row.Row.{Row}
use Rattle.dist_model.specs.Way.{row_way, Way}
use Rattle.model_keys.proofs.EachLemmas.{loop-goes, loop-fails, loop-ends}
use Rattle.model_profiles.proofs.rows.rows_of.Goals as goal

pub returns-in-Err : goal.returns-in-Err
returns-in-Err c =
    loop-fails ROW.now (λ (done : List Row) (d : Data).
    row_of c.args.on.now.systems c.args.on.now.definitions c.args.on.now.messages c.args.on.now.filters (row_ways done) d) c.args.values.now c.loop-place.place
    _
    c.in-Err.error c.within.result
    c.loop-place.rows c.index-values-place.result c.index-values-place.is c.loop-place-test.true (rw (← c.loop-place.invariant.0) c.in-Err.ensures.given)
    c.within.ensures c.loop-place.invariant.1

pub loop-place-preserved : goal.loop-place-preserved
loop-place-preserved c =
    let pushed : c.push.new.self ≡ c.loop-place.rows ++ c.in-Ok.row ∷ [] = c.in_ok-push-in-Ok.ensures.ok in
    rw pushed (
      c.in-Ok.ensures.added ∙ ap (λ (before : List Way). before ++ row_way c.in-Ok.row ∷ []) c.loop-place.invariant.0
          ∙ sym (map_push (λ (one : Row). row_way one) c.loop-place.rows c.in-Ok.row),
      loop-goes ROW.now (λ (done : List Row) (d : Data).
          row_of c.args.on.now.systems c.args.on.now.definitions c.args.on.now.messages c.args.on.now.filters (row_ways done) d) c.args.values.now
          c.loop-place.place _
          c.loop-place.rows
          c.index-values-place.result c.in-Ok.row c.index-values-place.is c.loop-place-test.true (rw (← c.loop-place.invariant.0) c.in-Ok.ensures.given)
          c.loop-place.invariant.1,
    )

pub returns : goal.returns
returns c =
    loop-ends ROW.now (λ (done : List Row) (d : Data).
    row_of c.args.on.now.systems c.args.on.now.definitions c.args.on.now.messages c.args.on.now.filters (row_ways done) d) c.args.values.now c.loop-place.place
    _
    c.loop-place.rows c.loop-place-test.false c.loop-place.invariant.1
