use Rattle.std.specs.Prelude.{slice_get}
use Rattle.std.proofs.Common.{◌<◌, ◌≡◌, ℕ, length, Some, subst, sym, ap, ◌∙◌}
use Rattle.std.proofs.lemmas.Option.{slice_get-get_or}
use Rattle.ale_base.proofs.ListLemmas.{AllByRecursion-at}
use Rattle.dist_model.specs.Model.{entries_for, receivers_of}
use Rattle.idoc_tree.specs.Nodes.{forest_of}
use Rattle.idoc_reading.specs.Document.{IsOfEntries}
use Rattle.outbound_build.specs.Sent.{message_of}
use Rattle.outbound_build.proofs.RowLemmas.{receivers-message, receivers-within}
use Rattle.outbound_build.proofs.batch.add_rows.Goals as goal

pub add_row-requires-clause-row : goal.add_row-requires-clause-row
add_row-requires-clause-row c =
    let model = c.args.model.now in
    let message = c.args.master.now.message in
    let at = c.loop-row.row-index in
    let row = c.row-item.result in
    let places = c.as_slice-places.result.now in
    let here : slice_get places at ≡ Some row = slice_get-get_or places at row c.loop-row-test.true ∙ ap Some (sym c.row-item.is) in
    AllByRecursion-at (λ k. k < length model.rows) (receivers_of c.args.system message model) at row (receivers-within c.args.system message model)
    (ap (λ rows. slice_get rows at) (sym c.in_ok-rows.ensures ∙ sym c.as_slice-places.ensures) ∙ here)

pub add_row-requires-clause-of_entries : goal.add_row-requires-clause-of_entries
add_row-requires-clause-of_entries c =
    let model = c.args.model.now in
    let message = c.args.master.now.message in
    let at = c.loop-row.row-index in
    let row = c.row-item.result in
    let places = c.as_slice-places.result.now in
    let here : slice_get places at ≡ Some row = slice_get-get_or places at row c.loop-row-test.true ∙ ap Some (sym c.row-item.is) in
    let same : message_of model row ≡ message
    = AllByRecursion-at (λ k. message_of model k ≡ message) (receivers_of c.args.system message model) at row (receivers-message c.args.system message model)
    (ap (λ rows. slice_get rows at) (sym c.in_ok-rows.ensures ∙ sym c.as_slice-places.ensures) ∙ here) in
    subst (λ (m : ℕ). IsOfEntries model.definitions (entries_for model m c.args.master.now.doc.control) (forest_of c.args.master.now.doc.forest.items))
    (sym same) c.requires.of_entries
