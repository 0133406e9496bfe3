use Rattle.std.proofs.Common.{◌≡◌, ◌++◌, ◌∷◌, ℕ, List, [], sym, ◌∙◌, ap}
use Rattle.std.proofs.lemmas.List.{map_push}
use Rattle.toml.specs.Data.{Data}
use Rattle.dist_model.specs.declared.system.System.{System}
use Rattle.dist_model.specs.Model.{system_names}
use Rattle.model_text.specs.Systems.{system_of}
use Rattle.model_keys.proofs.EachLemmas.{loop-goes, loop-fails, loop-ends}
use Rattle.model_text.specs.declared.keys.TheConstants.{SYSTEM}
use Rattle.model_text.proofs.systems.systems_of.Goals as goal

pub returns-in-Err-clause-given : goal.returns-in-Err-clause-given
returns-in-Err-clause-given c =
    loop-fails SYSTEM.now (λ (done : List (System)) (d : Data). system_of (system_names done) d) c.args.values.now c.loop-place.place _ c.in-Err.error
    c.within.result
    c.loop-place.systems c.index-values-place.result c.index-values-place.is c.loop-place-test.true (rw (← c.loop-place.invariant.0) c.in-Err.ensures.given)
    c.within.ensures c.loop-place.invariant.1

pub loop-place-preserved : goal.loop-place-preserved
loop-place-preserved c =
    let pushed : c.push.new.self ≡ c.loop-place.systems ++ c.in-Ok.system ∷ [] = c.in_ok-push-in-Ok.ensures.ok in
    rw pushed (
      c.in-Ok.ensures.named ∙ ap (λ (names : List (List ℕ)). names ++ c.in-Ok.system.name ∷ []) c.loop-place.invariant.0
          ∙ sym (map_push (λ (system : System). system.name) c.loop-place.systems c.in-Ok.system),
      loop-goes SYSTEM.now (λ (done : List (System)) (d : Data). system_of (system_names done) d) c.args.values.now c.loop-place.place _ c.loop-place.systems
          c.index-values-place.result c.in-Ok.system c.index-values-place.is c.loop-place-test.true (rw (← c.loop-place.invariant.0) c.in-Ok.ensures.given)
          c.loop-place.invariant.1,
    )

pub returns-clause-given : goal.returns-clause-given
returns-clause-given c =
    loop-ends SYSTEM.now (λ (done : List (System)) (d : Data). system_of (system_names done) d) c.args.values.now c.loop-place.place _ c.loop-place.systems
    c.loop-place-test.false c.loop-place.invariant.1
