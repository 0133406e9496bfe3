use Rattle.ale_base.specs.Faults.{Rose}
use Rattle.ale_host.proofs.EndingLemmas.{pass-ended}
use Rattle.ale_host.proofs.host.pass.Goals as goal

pub returns-in-Err-clause-ends : goal.returns-in-Err-clause-ends
returns-in-Err-clause-ends g c =
    pass-ended c.args.name.now (g.F.Files.told c.args.files.now c.args.name.now)
    (Rose (g.F.Files.faults c.args.files.now) (g.F.Files.faults c.read_documents.new.files)) c.in-Err.ending c.in-Err.ensures.stops
