use Rattle.std.proofs.Common.{◌≡◌}
use Rattle.ale_host.specs.Running.{masters_of}
use Rattle.ale_host.proofs.prepared.masters_of.Given as goal

abbrev pub invariant-loop-document : goal.invariant-loop-document
invariant-loop-document l = l.masters ≡ masters_of l.yielded
