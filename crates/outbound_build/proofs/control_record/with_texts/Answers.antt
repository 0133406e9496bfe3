use Rattle.std.proofs.Common.{◌≤◌, length, take, get_or, ap, sym, subst, ◌∙◌}
use Rattle.ale_base.specs.Blanks.{trimmed}
use Rattle.idoc_record.specs.declared.control_field.ControlField.TheVariants.{Tabnam}
use Rattle.idoc_record.specs.ControlField.{span_of}
use Rattle.idoc_record.specs.Parts.{with_text}
use Rattle.idoc_record.specs.Control.{IsAllowed, control_with}
use Rattle.outbound_build.specs.ControlRecord.{control_text}
use Rattle.outbound_build.specs.steps.Texts.{written_all}
use Rattle.outbound_build.proofs.ControlLemmas.{texts-room, texts-allowed, written-more, one_more_taken}
use Rattle.outbound_build.proofs.control_record.with_texts.Goals as goal

pub set-requires-clause-fits : goal.set-requires-clause-fits
set-requires-clause-fits c =
    let field = get_or c.args.fields.now c.loop-field.field-index Tabnam in
    let same = ap length c.text_of-text.ensures in
    subst (λ n. n ≤ (span_of field).length) (sym same)
    (texts-room c.args.lists.now c.args.profile.now c.args.number.0 c.args.master.now c.requires.model c.requires.profile field)

pub set-requires-clause-allowed : goal.set-requires-clause-allowed
set-requires-clause-allowed c =
    let field = get_or c.args.fields.now c.loop-field.field-index Tabnam in
    subst (λ text. IsAllowed field (trimmed text)) (sym c.text_of-text.ensures)
    (texts-allowed c.args.lists.now c.args.profile.now c.args.number.0 c.args.master.now field)

pub loop-field-preserved : goal.loop-field-preserved
loop-field-preserved c =
    let fields = c.args.fields.now in
    let at = c.loop-field.field-index in
    let field = get_or fields at Tabnam in
    let texts = control_text c.args.lists.now c.args.profile.now c.args.number.0 c.args.master.now in
    c.set.ensures.written
    ∙ ap (λ text. with_text (span_of field) text c.loop-field.control) c.text_of-text.ensures
    ∙ ap (with_text (span_of field) (texts field)) c.loop-field.invariant
    ∙ written-more texts (take at fields) field
    (texts-room c.args.lists.now c.args.profile.now c.args.number.0 c.args.master.now c.requires.model c.requires.profile)
    ∙ ap (λ taken. control_with (written_all texts taken)) (sym (one_more_taken fields at Tabnam c.loop-field-test.true))
