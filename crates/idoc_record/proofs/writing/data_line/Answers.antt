use Rattle.std.proofs.Common.{refl, subst}
use Rattle.idoc_record.specs.Data.{DataRecord, IsDataRecord}
use Rattle.idoc_record.proofs.WrittenLemmas.{IsDataLine-written, length-data_line}
use Rattle.idoc_record.proofs.writing.data_line.Goals as goal

pub returns-clause-again : goal.returns-clause-again
returns-clause-again c =
    let P : DataRecord → Type 0 = IsDataRecord in
    IsDataLine-written c.args.control.now c.args.place c.args.line.now (subst P c.line.view_is c.line.invariant)

pub returns-clause-bytes : goal.returns-clause-bytes
returns-clause-bytes c =
    rw (
      c.put_at-2.ensures,
      c.put_place.ensures,
      c.put_address.ensures,
      c.put_at.ensures,
      c.blank_record-record.ensures,
      c.trimmed.ensures.text,
      c.as_slice.ensures,
      ← c.line.view_is,
    ) refl

pub returns-clause-whole : goal.returns-clause-whole
returns-clause-whole c =
    let P : DataRecord → Type 0 = IsDataRecord in
    length-data_line c.args.control.now c.args.place c.args.line.now (subst P c.line.view_is c.line.invariant)
