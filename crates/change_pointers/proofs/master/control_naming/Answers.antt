use Rattle.std.proofs.Common.{ap, ◌∙◌}
use Rattle.idoc_record.specs.declared.control_field.ControlField.TheVariants.{Idoctyp, Mestyp}
use Rattle.idoc_record.specs.ControlField.{span_of}
use Rattle.idoc_record.specs.Parts.{with_text}
use Rattle.idoc_record.specs.Control.{blank_text, written_at}
use Rattle.idoc_record.proofs.FieldsLemmas.{control_with-written, HasRoom-written}
use Rattle.change_pointers.proofs.MasterLemmas.{blank-room}
use Rattle.change_pointers.proofs.master.control_naming.Goals as goal

pub returns : goal.returns
returns c =
    let idoctype = c.args.idoctype.now in
    let message = c.args.message.now in
    c.set-2.ensures.written
    ∙ ap (with_text (span_of Mestyp) message)
    (c.set.ensures.written
    ∙ ap (with_text (span_of Idoctyp) idoctype) c.blank-control.ensures.fields
    ∙ control_with-written Idoctyp idoctype blank_text c.requires.idoctype (λ f. blank-room f))
    ∙ control_with-written Mestyp message (written_at Idoctyp idoctype blank_text) c.requires.message
    (HasRoom-written Idoctyp idoctype blank_text c.requires.idoctype (λ f. blank-room f))
