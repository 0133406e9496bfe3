use Rattle.std.proofs.Common.{◌≡◌, ◌++◌, ◌∷◌, ℕ, List, []}
use Rattle.toml.specs.Data.{Data}
use Rattle.model_keys.proofs.EachLemmas.{loop-goes, loop-fails, loop-ends}
use Rattle.model_messages.specs.Messages.{own_field_of}
use Rattle.model_messages.proofs.own_fields.own_fields_of.Goals as goal

pub returns-in-Err : goal.returns-in-Err
returns-in-Err c =
    loop-fails c.args.key.now (λ (done : List ℕ) (d : Data). own_field_of c.args.definitions.now c.args.kind.now d) c.args.values.now c.loop-place.place _
    c.in-Err.error c.within.result
    c.loop-place.fields c.index-values-place.result c.index-values-place.is c.loop-place-test.true c.in-Err.ensures c.within.ensures c.loop-place.invariant

pub loop-place-preserved : goal.loop-place-preserved
loop-place-preserved c =
    let pushed : c.push.new.self ≡ c.loop-place.fields ++ c.in-Ok.field ∷ [] = c.in_ok-push-in-Ok.ensures.ok in
    rw pushed (loop-goes c.args.key.now (λ (done : List ℕ) (d : Data). own_field_of c.args.definitions.now c.args.kind.now d) c.args.values.now
    c.loop-place.place _ c.loop-place.fields
    c.index-values-place.result c.in-Ok.field c.index-values-place.is c.loop-place-test.true c.in-Ok.ensures c.loop-place.invariant)

pub returns : goal.returns
returns c =
    loop-ends c.args.key.now (λ (done : List ℕ) (d : Data). own_field_of c.args.definitions.now c.args.kind.now d) c.args.values.now c.loop-place.place _
    c.loop-place.fields c.loop-place-test.false c.loop-place.invariant
