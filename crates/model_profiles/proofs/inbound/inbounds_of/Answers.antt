use Rattle.std.proofs.Common.{◌≡◌, ◌++◌, ◌∷◌, ℕ, List, [], sym, ◌∙◌, ap}
use Rattle.toml.specs.Data.{Data}
use Rattle.std.proofs.lemmas.List.{map_push}
use Rattle.model_profiles.specs.Inbound.{inbound_triples, inbound_of}
use Rattle.dist_model.specs.Index.{inbound_triple}
use Rattle.model_profiles.specs.declared.keys.TheConstants.{INBOUND}
use Rattle.dist_model.specs.declared.inbound.Inbound.{Inbound}
use Rattle.model_keys.proofs.EachLemmas.{loop-goes, loop-fails, loop-ends}
use Rattle.model_profiles.proofs.inbound.inbounds_of.Goals as goal

pub returns-in-Err : goal.returns-in-Err
returns-in-Err c =
    loop-fails INBOUND.now (λ (done : List Inbound) (d : Data). inbound_of c.args.systems.now c.args.names.now (inbound_triples c.args.names.now done) d)
    c.args.values.now c.loop-place.place _ c.in-Err.error c.within.result
    c.loop-place.profiles c.index-values-place.result c.index-values-place.is c.loop-place-test.true (rw (← c.loop-place.invariant.0) c.in-Err.ensures.given)
    c.within.ensures c.loop-place.invariant.1

pub loop-place-preserved : goal.loop-place-preserved
loop-place-preserved c =
    let pushed : c.push.new.self ≡ c.loop-place.profiles ++ c.in-Ok.profile ∷ [] = c.in_ok-push-in-Ok.ensures.ok in
    rw pushed (
      c.in-Ok.ensures.added ∙ ap (λ (before : List (ℕ × ℕ × ℕ)). before ++ inbound_triple c.args.names.now c.in-Ok.profile ∷ []) c.loop-place.invariant.0
          ∙ sym (map_push (λ (one : Inbound). inbound_triple c.args.names.now one) c.loop-place.profiles c.in-Ok.profile),
      loop-goes INBOUND.now (λ (done : List Inbound) (d : Data). inbound_of c.args.systems.now c.args.names.now (inbound_triples c.args.names.now done) d)
          c.args.values.now c.loop-place.place _ c.loop-place.profiles
          c.index-values-place.result c.in-Ok.profile c.index-values-place.is c.loop-place-test.true (rw (← c.loop-place.invariant.0) c.in-Ok.ensures.given)
          c.loop-place.invariant.1,
    )

pub returns : goal.returns
returns c =
    loop-ends INBOUND.now (λ (done : List Inbound) (d : Data). inbound_of c.args.systems.now c.args.names.now (inbound_triples c.args.names.now done) d)
    c.args.values.now c.loop-place.place _ c.loop-place.profiles c.loop-place-test.false c.loop-place.invariant.1
