use Rattle.std.proofs.Common.{◌≡◌, ◌++◌, ◌∷◌, ℕ, List, [], ◌∙◌, ap}
use Rattle.toml.specs.Data.{Data}
use Rattle.dist_model.specs.declared.limits.TheConstants.{LONGEST_RELEASE}
use Rattle.model_keys.specs.Keys.{new_name_of}
use Rattle.model_keys.proofs.EachLemmas.{loop-goes, loop-fails, loop-ends}
use Rattle.model_text.specs.declared.keys.TheConstants.{RELEASES}
use Rattle.model_text.proofs.releases.releases_of.Goals as goal

pub returns-in-Err-clause-given : goal.returns-in-Err-clause-given
returns-in-Err-clause-given c =
    loop-fails RELEASES.now (λ (done : List (List ℕ)) (d : Data). new_name_of LONGEST_RELEASE [] done d) c.args.values.now c.loop-place.place _ c.in-Err.error
    c.within.result
    c.loop-place.releases c.index-values-place.result c.index-values-place.is c.loop-place-test.true (rw (← c.loop-place.invariant.0) c.in-Err.ensures.given)
    c.within.ensures c.loop-place.invariant.1

pub loop-place-preserved : goal.loop-place-preserved
loop-place-preserved c =
    let pushed : c.push.new.self ≡ c.loop-place.releases ++ c.in-Ok.name ∷ [] = c.in_ok-push-in-Ok.ensures.ok in
    rw pushed (
      c.in-Ok.ensures.added ∙ ap (λ (names : List (List ℕ)). names ++ c.in-Ok.name ∷ []) c.loop-place.invariant.0,
      loop-goes RELEASES.now (λ (done : List (List ℕ)) (d : Data). new_name_of LONGEST_RELEASE [] done d) c.args.values.now c.loop-place.place _
          c.loop-place.releases
          c.index-values-place.result c.in-Ok.name c.index-values-place.is c.loop-place-test.true (rw (← c.loop-place.invariant.0) c.in-Ok.ensures.given)
          c.loop-place.invariant.1,
    )

pub returns-clause-given : goal.returns-clause-given
returns-clause-given c =
    loop-ends RELEASES.now (λ (done : List (List ℕ)) (d : Data). new_name_of LONGEST_RELEASE [] done d) c.args.values.now c.loop-place.place _
    c.loop-place.releases c.loop-place-test.false c.loop-place.invariant.1
