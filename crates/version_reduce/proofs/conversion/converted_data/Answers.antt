use Rattle.std.specs.Prelude.{slice_get}
use Rattle.std.proofs.Common.{◌≡◌, ℕ, Some, length, sym, ap, ◌∙◌, arith}
use Rattle.segment_defs.specs.Version.{text_in}
use Rattle.segment_defs.proofs.FieldLemmas.{text_in-at}
use Rattle.version_reduce.specs.Converted.{converted_text}
use Rattle.version_reduce.proofs.TextLemmas.{field-at, joined-more}
use Rattle.version_reduce.proofs.conversion.converted_data.Goals as goal

pub put_text-requires : goal.put_text-requires
put_text-requires c =
    let fields = c.args.fields.now in
    let place = c.loop-place.place in
    let field = c.index-fields-place.result in
    let here : slice_get fields place ≡ Some field = field-at fields place field c.loop-place-test.true c.index-fields-place.is in
    let text_is = c.converted_text-text.ensures
    ∙ ap (converted_text c.args.rows.now c.args.segment place) (c.text.ensures ∙ sym (text_in-at fields c.args.sdata.now place field here)) in
    omega (arith, c.requires.room place field here, ap length text_is)

pub loop-place-preserved : goal.loop-place-preserved
loop-place-preserved c =
    let fields = c.args.fields.now in
    let place = c.loop-place.place in
    let field = c.index-fields-place.result in
    let texts = λ (place : ℕ). converted_text c.args.rows.now c.args.segment place (text_in fields c.args.sdata.now place) in
    let here : slice_get fields place ≡ Some field = field-at fields place field c.loop-place-test.true c.index-fields-place.is in
    let text_is = c.converted_text-text.ensures
    ∙ ap (converted_text c.args.rows.now c.args.segment place) (c.text.ensures ∙ sym (text_in-at fields c.args.sdata.now place field here)) in
    joined-more fields texts place field _ _ c.converted_text-text.result.now c.loop-place-test.true c.index-fields-place.is c.loop-place.invariant
    c.in_ok-put_text.ensures.ok text_is
