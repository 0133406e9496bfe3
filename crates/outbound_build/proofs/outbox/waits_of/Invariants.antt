use Rattle.std.proofs.Common.{◌≡◌, ◌++◌, drop}
use Rattle.outbound_build.specs.Added.{waits_of}
use Rattle.outbound_build.proofs.outbox.waits_of.Given as goal

abbrev pub invariant-loop-document : goal.invariant-loop-document
invariant-loop-document l = l.waiting ++ waits_of (drop l.document-index l.documents) ≡ waits_of l.documents
