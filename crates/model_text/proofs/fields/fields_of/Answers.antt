use Rattle.std.proofs.Common.{◌≡◌, ◌++◌, ◌∷◌, [], List, ◌∙◌, arith}
use Rattle.toml.specs.Data.{Data}
use Rattle.segment_defs.specs.declared.field.Field.{Field}
use Rattle.model_keys.proofs.EachLemmas.{loop-goes, loop-fails, loop-ends}
use Rattle.model_text.specs.declared.keys.TheConstants.{ADDS}
use Rattle.model_text.specs.Fields.{field_of}
use Rattle.model_text.proofs.FieldLemmas.{field_names-push, width_of-push}
use Rattle.model_text.proofs.fields.fields_of.Goals as goal

pub returns-in-Err-clause-given : goal.returns-in-Err-clause-given
returns-in-Err-clause-given c =
    loop-fails ADDS.now (λ (done : List Field) (d : Data). field_of done d) c.args.values.now c.loop-place.place _ c.in-Err.error c.within.result
    c.loop-place.fields c.index-values-place.result c.index-values-place.is c.loop-place-test.true
    (rw c.as_slice-in-loop-place.ensures at c.in-Err.ensures.given) c.within.ensures c.loop-place.invariant.1

pub loop-place-preserved : goal.loop-place-preserved
loop-place-preserved c =
    let field = c.in-Ok.field in
    let pushed : c.push.new.self ≡ c.loop-place.fields ++ field ∷ [] = c.in_ok-push-in-Ok.ensures.ok in
    let so_far = c.loop-place.invariant.0 in
    rw pushed (
      record {
        named = c.in-Ok.ensures.names ∙ field_names-push c.loop-place.names c.loop-place.fields field so_far.named;
        summed = omega (arith, width_of-push c.loop-place.fields field, so_far.summed);
        narrow = c.in-Ok.ensures.fits;
      },
      loop-goes ADDS.now (λ (done : List Field) (d : Data). field_of done d) c.args.values.now c.loop-place.place _ c.loop-place.fields
          c.index-values-place.result field c.index-values-place.is c.loop-place-test.true (rw c.as_slice-in-loop-place.ensures at c.in-Ok.ensures.given)
          c.loop-place.invariant.1,
    )

pub returns-clause-given : goal.returns-clause-given
returns-clause-given c =
    loop-ends ADDS.now (λ (done : List Field) (d : Data). field_of done d) c.args.values.now c.loop-place.place _ c.loop-place.fields c.loop-place-test.false
    c.loop-place.invariant.1
