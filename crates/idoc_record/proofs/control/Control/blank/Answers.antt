use Rattle.std.proofs.Common.{◌∙◌}
use Rattle.idoc_record.proofs.FieldsLemmas.{blank-control}
use Rattle.idoc_record.proofs.control.Control.blank.Goals as goal

pub returns-clause-fields : goal.returns-clause-fields
returns-clause-fields c = c.put_padded.ensures ∙ blank-control
