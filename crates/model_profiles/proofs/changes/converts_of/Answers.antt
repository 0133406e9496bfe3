use Rattle.std.proofs.Common.{◌≡◌, ◌++◌, ◌∷◌, List, []}
use Rattle.toml.specs.Data.{Data}
use Rattle.model_profiles.specs.Changes.{convert_of}
use Rattle.model_profiles.specs.declared.keys.TheConstants.{CONVERT}
use Rattle.dist_model.specs.declared.outbound.Convert.{Convert}
use Rattle.model_keys.proofs.EachLemmas.{loop-goes, loop-fails, loop-ends}
use Rattle.model_profiles.proofs.changes.converts_of.Goals as goal

pub returns-in-Err : goal.returns-in-Err
returns-in-Err c =
    loop-fails CONVERT.now (λ (done : List Convert) (d : Data). convert_of c.args.on.now.types c.args.on.now.definitions d) c.args.values.now c.loop-place.place
    _
    c.in-Err.error c.within.result
    c.loop-place.converts c.index-values-place.result c.index-values-place.is c.loop-place-test.true c.in-Err.ensures c.within.ensures c.loop-place.invariant

pub loop-place-preserved : goal.loop-place-preserved
loop-place-preserved c =
    let pushed : c.push.new.self ≡ c.loop-place.converts ++ c.in-Ok.convert ∷ [] = c.in_ok-push-in-Ok.ensures.ok in
    rw pushed (loop-goes CONVERT.now (λ (done : List Convert) (d : Data). convert_of c.args.on.now.types c.args.on.now.definitions d) c.args.values.now
    c.loop-place.place _ c.loop-place.converts
    c.index-values-place.result c.in-Ok.convert c.index-values-place.is c.loop-place-test.true c.in-Ok.ensures c.loop-place.invariant)

pub returns : goal.returns
returns c =
    loop-ends CONVERT.now (λ (done : List Convert) (d : Data). convert_of c.args.on.now.types c.args.on.now.definitions d) c.args.values.now c.loop-place.place
    _
    c.loop-place.converts c.loop-place-test.false c.loop-place.invariant
