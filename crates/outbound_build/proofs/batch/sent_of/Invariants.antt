use Rattle.std.specs.Prelude.{fold}
use Rattle.std.proofs.Common.{◌≡◌, drop}
use Rattle.outbound_build.specs.Added.{with_master, sent_of}
use Rattle.outbound_build.proofs.batch.sent_of.Given as goal

abbrev pub invariant-loop-doc : goal.invariant-loop-doc
invariant-loop-doc l = fold (with_master l.model l.system l.before) l.batch (drop l.doc-index l.docs) ≡ sent_of l.model l.system l.before l.docs
