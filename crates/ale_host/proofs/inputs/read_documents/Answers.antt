use Rattle.std.proofs.Common.{refl}
use Rattle.ale_host.proofs.inputs.read_documents.Goals as goal

pub returns-in-Ok-refused-clause-stops : goal.returns-in-Ok-refused-clause-stops
returns-in-Ok-refused-clause-stops g c =
    let fed = c.in-Ok.ensures.fed in
    rw c.in-Ok-refused.ensures.ending
    (fed.bytes, (fed.whole, fed.stands.within), c.in-Err-end.ensures.fault c.in-Err-end.fault refl c.in-Ok-refused.ensures.bad fed.bytes fed.stands)
