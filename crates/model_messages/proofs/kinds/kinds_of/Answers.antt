use Rattle.std.proofs.Common.{◌≡◌, ◌++◌, ◌∷◌, ℕ, List, [], sym, ◌∙◌, ap}
use Rattle.std.proofs.lemmas.List.{map_push}
use Rattle.toml.specs.Data.{Data}
use Rattle.dist_model.specs.declared.kind.Kind.{Kind}
use Rattle.dist_model.specs.Kind.{kind_names}
use Rattle.model_keys.proofs.EachLemmas.{loop-goes, loop-fails, loop-ends}
use Rattle.model_messages.specs.Kinds.{kind_of}
use Rattle.model_messages.specs.declared.keys.TheConstants.{KIND}
use Rattle.model_messages.proofs.kinds.kinds_of.Goals as goal

pub returns-in-Err-clause-given : goal.returns-in-Err-clause-given
returns-in-Err-clause-given c =
    loop-fails KIND.now (λ (done : List Kind) (d : Data). kind_of c.args.definitions.now (kind_names done) d) c.args.values.now c.loop-place.place _
    c.in-Err.error c.within.result
    c.loop-place.kinds c.index-values-place.result c.index-values-place.is c.loop-place-test.true (rw (← c.loop-place.invariant.0) c.in-Err.ensures.given)
    c.within.ensures c.loop-place.invariant.1

pub loop-place-preserved : goal.loop-place-preserved
loop-place-preserved c =
    let pushed : c.push.new.self ≡ c.loop-place.kinds ++ c.in-Ok.kind ∷ [] = c.in_ok-push-in-Ok.ensures.ok in
    rw pushed (
      c.in-Ok.ensures.named ∙ ap (λ (names : List (List ℕ)). names ++ c.in-Ok.kind.name ∷ []) c.loop-place.invariant.0
          ∙ sym (map_push (λ (kind : Kind). kind.name) c.loop-place.kinds c.in-Ok.kind),
      loop-goes KIND.now (λ (done : List Kind) (d : Data). kind_of c.args.definitions.now (kind_names done) d) c.args.values.now c.loop-place.place _
          c.loop-place.kinds
          c.index-values-place.result c.in-Ok.kind c.index-values-place.is c.loop-place-test.true (rw (← c.loop-place.invariant.0) c.in-Ok.ensures.given)
          c.loop-place.invariant.1,
    )

pub returns-clause-given : goal.returns-clause-given
returns-clause-given c =
    loop-ends KIND.now (λ (done : List Kind) (d : Data). kind_of c.args.definitions.now (kind_names done) d) c.args.values.now c.loop-place.place _
    c.loop-place.kinds c.loop-place-test.false c.loop-place.invariant.1
