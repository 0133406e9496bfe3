use Rattle.std.proofs.Common.{◌≡◌, ◌++◌, ◌∷◌, ℕ, List, []}
use Rattle.toml.specs.Data.{Data}
use Rattle.model_profiles.specs.Values.{filter_value_of}
use Rattle.model_keys.proofs.EachLemmas.{loop-goes, loop-fails, loop-ends}
use Rattle.model_profiles.proofs.rows.values_of.Goals as goal

pub returns-in-Err : goal.returns-in-Err
returns-in-Err c =
    loop-fails c.args.key.now (λ (done : List (List ℕ)) (d : Data). filter_value_of c.args.width d) c.args.values.now c.loop-place.place _ c.in-Err.error
    c.within.result
    c.loop-place.texts c.index-values-place.result c.index-values-place.is c.loop-place-test.true c.in-Err.ensures c.within.ensures c.loop-place.invariant

pub loop-place-preserved : goal.loop-place-preserved
loop-place-preserved c =
    let pushed : c.push.new.self ≡ c.loop-place.texts ++ c.in-Ok.text ∷ [] = c.in_ok-push-in-Ok.ensures.ok in
    rw pushed (loop-goes c.args.key.now (λ (done : List (List ℕ)) (d : Data). filter_value_of c.args.width d) c.args.values.now c.loop-place.place _
    c.loop-place.texts
    c.index-values-place.result c.in-Ok.text c.index-values-place.is c.loop-place-test.true c.in-Ok.ensures c.loop-place.invariant)

pub returns : goal.returns
returns c =
    loop-ends c.args.key.now (λ (done : List (List ℕ)) (d : Data). filter_value_of c.args.width d) c.args.values.now c.loop-place.place _ c.loop-place.texts
    c.loop-place-test.false c.loop-place.invariant
