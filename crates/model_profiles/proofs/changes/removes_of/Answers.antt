use Rattle.std.proofs.Common.{◌≡◌, ◌++◌, ◌∷◌, ℕ, List, []}
use Rattle.toml.specs.Data.{Data}
use Rattle.model_profiles.specs.Changes.{removed_of}
use Rattle.model_profiles.specs.declared.keys.TheConstants.{REMOVE}
use Rattle.model_keys.proofs.EachLemmas.{loop-goes, loop-fails, loop-ends}
use Rattle.model_profiles.proofs.changes.removes_of.Goals as goal

pub returns-in-Err : goal.returns-in-Err
returns-in-Err c =
    loop-fails REMOVE.now (λ (done : List ℕ) (d : Data). removed_of c.args.on.now.types d) c.args.values.now c.loop-place.place _ c.in-Err.error c.within.result
    c.loop-place.segments c.index-values-place.result c.index-values-place.is c.loop-place-test.true c.in-Err.ensures c.within.ensures c.loop-place.invariant

pub loop-place-preserved : goal.loop-place-preserved
loop-place-preserved c =
    let pushed : c.push.new.self ≡ c.loop-place.segments ++ c.in-Ok.segment ∷ [] = c.in_ok-push-in-Ok.ensures.ok in
    rw pushed (loop-goes REMOVE.now (λ (done : List ℕ) (d : Data). removed_of c.args.on.now.types d) c.args.values.now c.loop-place.place _
    c.loop-place.segments
    c.index-values-place.result c.in-Ok.segment c.index-values-place.is c.loop-place-test.true c.in-Ok.ensures c.loop-place.invariant)

pub returns : goal.returns
returns c =
    loop-ends REMOVE.now (λ (done : List ℕ) (d : Data). removed_of c.args.on.now.types d) c.args.values.now c.loop-place.place _ c.loop-place.segments
    c.loop-place-test.false c.loop-place.invariant
