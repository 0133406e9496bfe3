use Rattle.std.specs.Prelude.{slice_get, if◌then◌else◌}
use Rattle.std.proofs.Common.{◌≡◌, ℕ, Some, length, sym, ap, ◌∙◌, arith}
use Rattle.segment_defs.specs.Version.{field_text, text_in}
use Rattle.segment_defs.proofs.FieldLemmas.{length-field_text, text_in-at}
use Rattle.version_reduce.specs.Reduced.{is_kept, no_data}
use Rattle.version_reduce.proofs.ReduceLemmas.{either_fits}
use Rattle.version_reduce.proofs.TextLemmas.{field-at, field-is, joined-more}
use Rattle.version_reduce.proofs.reduction.reduced_data.Goals as goal

pub put_text-requires : goal.put_text-requires
put_text-requires c =
    let fields = c.args.fields.now in
    let field = c.index-fields-place.result in
    let here : slice_get fields c.loop-place.place ≡ Some field = field-at fields c.loop-place.place field c.loop-place-test.true c.index-fields-place.is in
    let is = field-is fields c.loop-place.place field c.requires here in
    let fits = either_fits (is_kept c.args.keep.now c.args.segment c.loop-place.place) field.length (field_text c.args.sdata.now field) no_data
    (length-field_text c.args.sdata.now field) is.least in
    omega (arith, fits, ap length c.reduced_text-text.ensures)

pub loop-place-preserved : goal.loop-place-preserved
loop-place-preserved c =
    let fields = c.args.fields.now in
    let place = c.loop-place.place in
    let field = c.index-fields-place.result in
    let texts = λ (place : ℕ). if is_kept c.args.keep.now c.args.segment place then text_in fields c.args.sdata.now place else no_data in
    let here : slice_get fields place ≡ Some field = field-at fields place field c.loop-place-test.true c.index-fields-place.is in
    let text_is = c.reduced_text-text.ensures
    ∙ ap (λ text. if is_kept c.args.keep.now c.args.segment place then text else no_data) (sym (text_in-at fields c.args.sdata.now place field here)) in
    joined-more fields texts place field _ _ c.reduced_text-text.result.now c.loop-place-test.true c.index-fields-place.is c.loop-place.invariant
    c.in_ok-put_text.ensures.ok text_is
