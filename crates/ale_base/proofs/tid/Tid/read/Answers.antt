use Rattle.ale_base.proofs.TidLemmas.{same_tid}
use Rattle.ale_base.proofs.tid.Tid.read.Goals as goal

pub returns-clause-computed : goal.returns-clause-computed
returns-clause-computed c = same_tid c.args.bytes.now c.spelled_by.result c.spelled_by.ensures.found c.spelled_by.ensures.spelled
