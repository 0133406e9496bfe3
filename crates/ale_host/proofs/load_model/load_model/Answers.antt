use Rattle.std.proofs.Common.{rules}
use Rattle.ale_host.specs.LoadModel.{load_model}
use Rattle.ale_host.proofs.load_model.load_model.Goals as goal

pub returns : goal.returns
unfolding load_model
returns c = search rules
