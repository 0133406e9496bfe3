use Rattle.std.proofs.Common.{◌≡◌, ◌≤◌, take}
use Rattle.outbound_build.specs.Committed.{past_of}
use Rattle.outbound_build.specs.steps.Behind.{kept_of}
use Rattle.outbound_build.proofs.CommitLemmas.{AreFew}
use Rattle.outbound_build.proofs.committing.committed.Given as goal

abbrev pub invariant-loop-next : goal.invariant-loop-next
invariant-loop-next l = record {
  kept : l.behind ≡ kept_of (past_of l.models (take l.next-index l.log));
  few : AreFew l.models l.log l.next-index;
  room : l.behind.models ≤ l.next-index;
}
