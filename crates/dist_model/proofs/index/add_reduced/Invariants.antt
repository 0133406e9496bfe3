use Rattle.std.proofs.Common.{◌≡◌, ◌++◌, take}
use Rattle.dist_model.specs.Message.{reduced_names}
use Rattle.dist_model.proofs.index.add_reduced.Given as goal

abbrev pub invariant-loop-one : goal.invariant-loop-one
invariant-loop-one l = l.names ≡ l.initial.names ++ reduced_names (take l.one-index l.reduced)
