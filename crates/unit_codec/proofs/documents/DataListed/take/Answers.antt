use Rattle.unit_codec.proofs.RuleLemmas.{IsDataRecord-of}
use Rattle.unit_codec.proofs.documents.DataListed.take.Goals as goal

pub invariant_of-result : goal.invariant_of-result
invariant_of-result c = IsDataRecord-of c.in_ok-segnam.segnam c.in_ok-sdata.sdata c.in_ok-segnam.ensures.ruled c.in_ok-sdata.ensures.ruled
