use Rattle.std.proofs.Common.{◌≡◌, ◌++◌, ◌∷◌, List, []}
use Rattle.toml.specs.Data.{Data}
use Rattle.dist_model.specs.declared.filter.Filter.{Filter}
use Rattle.model_keys.proofs.EachLemmas.{loop-goes, loop-fails, loop-ends}
use Rattle.model_messages.specs.Filters.{filter_of}
use Rattle.model_messages.specs.declared.keys.TheConstants.{FILTER}
use Rattle.model_messages.proofs.filters.filters_of.Goals as goal

pub returns-in-Err : goal.returns-in-Err
returns-in-Err c =
    loop-fails FILTER.now (λ (done : List Filter) (d : Data). filter_of c.args.definitions.now c.args.types.now c.args.messages.now.things.now done d)
    c.args.values.now c.loop-place.place _ c.in-Err.error c.within.result
    c.loop-place.filters c.index-values-place.result c.index-values-place.is c.loop-place-test.true (rw c.as_slice.ensures at c.in-Err.ensures) c.within.ensures
    c.loop-place.invariant

pub loop-place-preserved : goal.loop-place-preserved
loop-place-preserved c =
    let pushed : c.push.new.self ≡ c.loop-place.filters ++ c.in-Ok.filter ∷ [] = c.in_ok-push-in-Ok.ensures.ok in
    rw pushed (loop-goes FILTER.now (λ (done : List Filter) (d : Data). filter_of c.args.definitions.now c.args.types.now c.args.messages.now.things.now done d)
    c.args.values.now c.loop-place.place _ c.loop-place.filters
    c.index-values-place.result c.in-Ok.filter c.index-values-place.is c.loop-place-test.true (rw c.as_slice.ensures at c.in-Ok.ensures) c.loop-place.invariant)

pub returns : goal.returns
returns c =
    loop-ends FILTER.now (λ (done : List Filter) (d : Data). filter_of c.args.definitions.now c.args.types.now c.args.messages.now.things.now done d)
    c.args.values.now c.loop-place.place _ c.loop-place.filters c.loop-place-test.false c.loop-place.invariant
