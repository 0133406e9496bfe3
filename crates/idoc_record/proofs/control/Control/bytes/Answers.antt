use Rattle.idoc_record.proofs.WrittenLemmas.{IsControlLine-same}
use Rattle.idoc_record.proofs.control.Control.bytes.Goals as goal

pub returns-clause-line : goal.returns-clause-line
returns-clause-line c = rw (← c.self.view_is) (IsControlLine-same _ c.self.invariant)
