use Rattle.std.proofs.Common.{◌≡◌, ◌++◌, ◌∷◌, ℕ, List, [], sym, ◌∙◌, ap}
use Rattle.std.proofs.lemmas.List.{map_push}
use Rattle.toml.specs.Data.{Data}
use Rattle.dist_model.specs.declared.message.Message.{Message}
use Rattle.dist_model.specs.Message.{message_names}
use Rattle.model_keys.proofs.EachLemmas.{loop-goes, loop-fails, loop-ends}
use Rattle.model_messages.specs.Messages.{message_of}
use Rattle.model_messages.specs.declared.keys.TheConstants.{MESSAGE}
use Rattle.model_messages.proofs.messages.messages_of.Goals as goal

pub returns-in-Err-clause-given : goal.returns-in-Err-clause-given
returns-in-Err-clause-given c =
    loop-fails MESSAGE.now (λ (done : List Message) (d : Data).
    message_of c.args.definitions.now c.args.types.now.things.now c.args.kinds.now.things.now (message_names done) d) c.args.values.now c.loop-place.place _
    c.in-Err.error c.within.result
    c.loop-place.messages c.index-values-place.result c.index-values-place.is c.loop-place-test.true (rw (← c.loop-place.invariant.0) c.in-Err.ensures.given)
    c.within.ensures c.loop-place.invariant.1

pub loop-place-preserved : goal.loop-place-preserved
loop-place-preserved c =
    let pushed : c.push.new.self ≡ c.loop-place.messages ++ c.in-Ok.message ∷ [] = c.in_ok-push-in-Ok.ensures.ok in
    rw pushed (
      c.in-Ok.ensures.named ∙ ap (λ (names : List (List ℕ)). names ++ c.in-Ok.message.name ∷ []) c.loop-place.invariant.0
          ∙ sym (map_push (λ (message : Message). message.name) c.loop-place.messages c.in-Ok.message),
      loop-goes MESSAGE.now (λ (done : List Message) (d : Data).
          message_of c.args.definitions.now c.args.types.now.things.now c.args.kinds.now.things.now (message_names done) d) c.args.values.now c.loop-place.place
          _ c.loop-place.messages
          c.index-values-place.result c.in-Ok.message c.index-values-place.is c.loop-place-test.true (rw (← c.loop-place.invariant.0) c.in-Ok.ensures.given)
          c.loop-place.invariant.1,
    )

pub returns-clause-given : goal.returns-clause-given
returns-clause-given c =
    loop-ends MESSAGE.now (λ (done : List Message) (d : Data).
    message_of c.args.definitions.now c.args.types.now.things.now c.args.kinds.now.things.now (message_names done) d) c.args.values.now c.loop-place.place _
    c.loop-place.messages c.loop-place-test.false c.loop-place.invariant.1
