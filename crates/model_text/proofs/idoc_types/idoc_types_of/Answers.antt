use Rattle.std.proofs.Common.{◌≡◌, ◌++◌, ◌∷◌, ℕ, List, [], sym, ◌∙◌, ap}
use Rattle.std.proofs.lemmas.List.{map_push}
use Rattle.toml.specs.Data.{Data}
use Rattle.segment_defs.specs.declared.idoc_type.IdocType.{IdocType}
use Rattle.dist_model.specs.Model.{idoc_type_names}
use Rattle.model_text.specs.IdocTypes.{idoc_type_of}
use Rattle.model_keys.proofs.EachLemmas.{loop-goes, loop-fails, loop-ends}
use Rattle.model_text.specs.declared.keys.TheConstants.{IDOCTYPE}
use Rattle.model_text.proofs.idoc_types.idoc_types_of.Goals as goal

pub returns-in-Err-clause-given : goal.returns-in-Err-clause-given
returns-in-Err-clause-given c =
    loop-fails IDOCTYPE.now (λ (done : List (IdocType)) (d : Data). idoc_type_of c.args.types.now (idoc_type_names done) d) c.args.values.now c.loop-place.place
    _ c.in-Err.error c.within.result
    c.loop-place.idoc_types c.index-values-place.result c.index-values-place.is c.loop-place-test.true (rw (← c.loop-place.invariant.0) c.in-Err.ensures.given)
    c.within.ensures c.loop-place.invariant.1

pub loop-place-preserved : goal.loop-place-preserved
loop-place-preserved c =
    let pushed : c.push.new.self ≡ c.loop-place.idoc_types ++ c.in-Ok.idoc_type ∷ [] = c.in_ok-push-in-Ok.ensures.ok in
    rw pushed (
      c.in-Ok.ensures.named ∙ ap (λ (names : List (List ℕ)). names ++ c.in-Ok.idoc_type.name ∷ []) c.loop-place.invariant.0
          ∙ sym (map_push (λ (type : IdocType). type.name) c.loop-place.idoc_types c.in-Ok.idoc_type),
      loop-goes IDOCTYPE.now (λ (done : List (IdocType)) (d : Data). idoc_type_of c.args.types.now (idoc_type_names done) d) c.args.values.now
          c.loop-place.place _ c.loop-place.idoc_types
          c.index-values-place.result c.in-Ok.idoc_type c.index-values-place.is c.loop-place-test.true (rw (← c.loop-place.invariant.0) c.in-Ok.ensures.given)
          c.loop-place.invariant.1,
    )

pub returns-clause-given : goal.returns-clause-given
returns-clause-given c =
    loop-ends IDOCTYPE.now (λ (done : List (IdocType)) (d : Data). idoc_type_of c.args.types.now (idoc_type_names done) d) c.args.values.now c.loop-place.place
    _ c.loop-place.idoc_types c.loop-place-test.false c.loop-place.invariant.1
