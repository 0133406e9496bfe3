use Rattle.std.proofs.Common.{◌≡◌, ◌++◌, ◌∷◌, ℕ, List, [], sym, ◌∙◌, ap}
use Rattle.toml.specs.Data.{Data}
use Rattle.dist_model.specs.declared.message.Reduced.{Reduced}
use Rattle.model_keys.proofs.EachLemmas.{loop-goes, loop-fails, loop-ends}
use Rattle.model_messages.specs.Reduced.{names_with, reduced_of}
use Rattle.model_messages.specs.declared.keys.TheConstants.{REDUCED}
use Rattle.model_messages.proofs.ReducedLemmas.{names_with-push}
use Rattle.model_messages.proofs.reduced.all_reduced_of.Goals as goal

pub returns-in-Err-clause-given : goal.returns-in-Err-clause-given
returns-in-Err-clause-given c =
    let messages = c.args.messages.now.things.now in
    loop-fails REDUCED.now (λ (done : List Reduced) (d : Data). reduced_of c.args.definitions.now c.args.types.now messages (names_with messages done) d)
    c.args.values.now c.loop-place.place _
    c.in-Err.error c.within.result c.loop-place.reduced c.index-values-place.result c.index-values-place.is c.loop-place-test.true
    (rw (← c.loop-place.invariant.0) c.in-Err.ensures.given) c.within.ensures c.loop-place.invariant.1

pub loop-place-preserved : goal.loop-place-preserved
loop-place-preserved c =
    let messages = c.args.messages.now.things.now in
    let pushed : c.push.new.self ≡ c.loop-place.reduced ++ c.in-Ok.one ∷ [] = c.in_ok-push-in-Ok.ensures.ok in
    rw pushed (
      c.in-Ok.ensures.named ∙ ap (λ (names : List (List ℕ)). names ++ c.in-Ok.one.name ∷ []) c.loop-place.invariant.0
          ∙ sym (names_with-push messages c.loop-place.reduced c.in-Ok.one),
      loop-goes REDUCED.now (λ (done : List Reduced) (d : Data). reduced_of c.args.definitions.now c.args.types.now messages (names_with messages done) d)
          c.args.values.now c.loop-place.place _
          c.loop-place.reduced c.index-values-place.result c.in-Ok.one c.index-values-place.is c.loop-place-test.true
          (rw (← c.loop-place.invariant.0) c.in-Ok.ensures.given) c.loop-place.invariant.1,
    )

pub returns-clause-given : goal.returns-clause-given
returns-clause-given c =
    let messages = c.args.messages.now.things.now in
    loop-ends REDUCED.now (λ (done : List Reduced) (d : Data). reduced_of c.args.definitions.now c.args.types.now messages (names_with messages done) d)
    c.args.values.now c.loop-place.place _
    c.loop-place.reduced c.loop-place-test.false c.loop-place.invariant.1
