use Rattle.std.proofs.Common.{◌≡◌, ◌++◌, ◌∷◌, List, [], sym, ◌∙◌, ap}
use Rattle.toml.specs.Data.{Data}
use Rattle.std.proofs.lemmas.List.{map_push}
use Rattle.model_profiles.specs.Outbound.{outbound_of}
use Rattle.model_profiles.specs.declared.keys.TheConstants.{OUTBOUND}
use Rattle.dist_model.specs.declared.outbound.Outbound.{Outbound}
use Rattle.dist_model.specs.Way.{outbound_way, outbound_ways, Way}
use Rattle.model_keys.proofs.EachLemmas.{loop-goes, loop-fails, loop-ends}
use Rattle.model_profiles.proofs.outbound.outbounds_of.Goals as goal

pub returns-in-Err : goal.returns-in-Err
returns-in-Err c =
    loop-fails OUTBOUND.now (λ (done : List Outbound) (d : Data).
    outbound_of c.args.basis.now.releases.now c.args.basis.now.systems.now c.args.basis.now.types.now c.args.basis.now.definitions.now
    c.args.basis.now.idoc_types.now c.args.basis.now.messages.now c.args.basis.now.reduced.now (outbound_ways done) d) c.args.values.now c.loop-place.place
    _ c.in-Err.error c.within.result
    c.loop-place.profiles c.index-values-place.result c.index-values-place.is c.loop-place-test.true (rw (← c.loop-place.invariant.0) c.in-Err.ensures.given)
    c.within.ensures c.loop-place.invariant.1

pub loop-place-preserved : goal.loop-place-preserved
loop-place-preserved c =
    let pushed : c.push.new.self ≡ c.loop-place.profiles ++ c.in-Ok.profile ∷ [] = c.in_ok-push-in-Ok.ensures.ok in
    rw pushed (
      c.in-Ok.ensures.added ∙ ap (λ (before : List Way). before ++ outbound_way c.in-Ok.profile ∷ []) c.loop-place.invariant.0
          ∙ sym (map_push (λ (one : Outbound). outbound_way one) c.loop-place.profiles c.in-Ok.profile),
      loop-goes OUTBOUND.now (λ (done : List Outbound) (d : Data).
          outbound_of c.args.basis.now.releases.now c.args.basis.now.systems.now c.args.basis.now.types.now c.args.basis.now.definitions.now
          c.args.basis.now.idoc_types.now c.args.basis.now.messages.now c.args.basis.now.reduced.now (outbound_ways done) d) c.args.values.now
          c.loop-place.place _ c.loop-place.profiles
          c.index-values-place.result c.in-Ok.profile c.index-values-place.is c.loop-place-test.true (rw (← c.loop-place.invariant.0) c.in-Ok.ensures.given)
          c.loop-place.invariant.1,
    )

pub returns : goal.returns
returns c =
    loop-ends OUTBOUND.now (λ (done : List Outbound) (d : Data).
    outbound_of c.args.basis.now.releases.now c.args.basis.now.systems.now c.args.basis.now.types.now c.args.basis.now.definitions.now
    c.args.basis.now.idoc_types.now c.args.basis.now.messages.now c.args.basis.now.reduced.now (outbound_ways done) d) c.args.values.now c.loop-place.place
    _ c.loop-place.profiles c.loop-place-test.false c.loop-place.invariant.1
