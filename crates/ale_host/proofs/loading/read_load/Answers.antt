use Rattle.ale_host.proofs.loading.read_load.Goals as goal

pub returns-in-Err-clause-ends : goal.returns-in-Err-clause-ends
returns-in-Err-clause-ends c = c.in-Err.ensures.ends c.args.masters
