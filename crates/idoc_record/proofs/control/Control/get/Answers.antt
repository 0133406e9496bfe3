use Rattle.idoc_record.specs.ControlField.{span_of}
use Rattle.idoc_record.proofs.PartLemmas.{length-text_at}
use Rattle.idoc_record.proofs.control.Control.get.Goals as goal

pub returns-clause-fits : goal.returns-clause-fits
returns-clause-fits c = rw c.field_of.ensures (length-text_at (span_of c.args.field) _)
