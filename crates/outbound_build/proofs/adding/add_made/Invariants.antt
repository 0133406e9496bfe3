use Rattle.std.proofs.Common.{take}
use Rattle.outbound_build.specs.Statuses.{made_for}
use Rattle.outbound_build.specs.steps.Adding.{Gets}
use Rattle.outbound_build.proofs.adding.add_made.Given as goal

abbrev pub invariant-loop-document : goal.invariant-loop-document
invariant-loop-document l = Gets l.by (made_for (take l.document-index l.documents)) l.fn.statuses l.statuses
