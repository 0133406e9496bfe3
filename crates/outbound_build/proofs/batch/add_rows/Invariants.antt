use Rattle.std.specs.Prelude.{fold}
use Rattle.std.proofs.Common.{◌≡◌, drop}
use Rattle.dist_model.specs.Model.{receivers_of}
use Rattle.outbound_build.specs.Document.{document_of}
use Rattle.outbound_build.specs.Added.{with_row}
use Rattle.outbound_build.proofs.batch.add_rows.Given as goal

abbrev pub invariant-loop-row : goal.invariant-loop-row
invariant-loop-row l =
    fold (with_row l.model l.before (document_of l.master.doc)) l.batch (drop l.row-index l.places)
    ≡ fold (with_row l.model l.before (document_of l.master.doc)) l.fn.batch (receivers_of l.fn.system l.master.message l.model)
