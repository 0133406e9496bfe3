use Rattle.std.specs.Prelude.{◌==◌, slice_get, if◌then◌else◌}
use Rattle.std.proofs.Common.{◌≡◌, ℕ, List, Some, ◌++◌, take, refl, sym, ap, ◌∙◌}
use Rattle.std.proofs.lemmas.Option.{slice_get_read}
use Rattle.ale_base.specs.Blanks.{padded}
use Rattle.segment_defs.specs.Version.{texts_joined}
use Rattle.object_store.specs.Objects.{value_in}
use Rattle.object_store.specs.Posting.{fields_of}
use Rattle.change_pointers.specs.Master.{object_text}
use Rattle.change_pointers.proofs.MasterLemmas.{texts-more, object_text-at}
use Rattle.change_pointers.proofs.master.object_data.Goals as goal

pub loop-place-preserved : goal.loop-place-preserved
loop-place-preserved c =
    let fields = c.args.fields.now in
    let place = c.loop-place.place in
    let field = c.index-fields-place.result in
    let key = c.args.key.now.key in
    let values = fields_of c.args.key.now.kind key c.args.objects.now in
    let texts = object_text fields c.args.key_place key values in
    let here : slice_get fields place ≡ Some field = slice_get_read fields _ place field refl c.loop-place-test.true c.index-fields-place.is in
    let text : c.text_of-text.result.now ≡ take field.length (if place == c.args.key_place then key else value_in field.name values) =
    c.text_of-text.ensures.text ∙ ap (λ (at : ℕ). take field.length (if place == at then key else value_in field.name values)) c.from.ensures in
    c.in_ok-put_text.ensures.ok
    ∙ ap (λ (front : List ℕ). front ++ padded field.length c.text_of-text.result.now) c.loop-place.invariant
    ∙ ap (λ (t : List ℕ). texts_joined (take place fields) texts ++ padded field.length t)
    (text ∙ sym (object_text-at fields c.args.key_place key values place field here))
    ∙ sym (texts-more fields texts place field c.loop-place-test.true c.index-fields-place.is)
