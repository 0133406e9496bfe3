use Rattle.std.proofs.Common.{◌≡◌, ◌++◌, ◌∷◌, List, []}
use Rattle.toml.specs.Data.{Data}
use Rattle.dist_model.specs.declared.filter.FieldPlace.{FieldPlace}
use Rattle.model_keys.proofs.EachLemmas.{loop-goes, loop-fails, loop-ends}
use Rattle.model_messages.specs.Reduced.{kept_of}
use Rattle.model_messages.specs.declared.keys.TheConstants.{KEEP}
use Rattle.model_messages.proofs.keep.keep_of.Goals as goal

pub returns-in-Err : goal.returns-in-Err
returns-in-Err c =
    loop-fails KEEP.now (λ (done : List FieldPlace) (d : Data). kept_of c.args.definitions.now c.args.types.now d) c.args.values.now c.loop-place.place _
    c.in-Err.error c.within.result
    c.loop-place.keep c.index-values-place.result c.index-values-place.is c.loop-place-test.true c.in-Err.ensures c.within.ensures c.loop-place.invariant

pub loop-place-preserved : goal.loop-place-preserved
loop-place-preserved c =
    let pushed : c.push.new.self ≡ c.loop-place.keep ++ c.in-Ok.kept ∷ [] = c.in_ok-push-in-Ok.ensures.ok in
    rw pushed (loop-goes KEEP.now (λ (done : List FieldPlace) (d : Data). kept_of c.args.definitions.now c.args.types.now d) c.args.values.now
    c.loop-place.place _ c.loop-place.keep
    c.index-values-place.result c.in-Ok.kept c.index-values-place.is c.loop-place-test.true c.in-Ok.ensures c.loop-place.invariant)

pub returns : goal.returns
returns c =
    loop-ends KEEP.now (λ (done : List FieldPlace) (d : Data). kept_of c.args.definitions.now c.args.types.now d) c.args.values.now c.loop-place.place _
    c.loop-place.keep c.loop-place-test.false c.loop-place.invariant
