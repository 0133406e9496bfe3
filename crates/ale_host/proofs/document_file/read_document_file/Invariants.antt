use Rattle.std.proofs.Common.{◌≡◌, ℕ, ◌-◌, ◌≤◌, List}
use Rattle.idoc_file.specs.Reading.{fed_of}
use Rattle.ale_host.specs.Feeding.{IsFed}
use Rattle.ale_host.proofs.document_file.read_document_file.Given as goal

abbrev pub invariant-loop-piece : goal.invariant-loop-piece
invariant-loop-piece g l = record {
  within : fed_of l.reader ≤ 67108864;
  fed : IsFed (g.F.Files.told l.fn.files l.name) l.reader;
  kept : (other : List ℕ) → g.F.Files.told l.files other ≡ g.F.Files.told l.fn.files other;
  quiet : g.F.Files.faults l.files ≡ g.F.Files.faults l.fn.files;
}

abbrev pub decreases-loop-piece : goal.decreases-loop-piece
decreases-loop-piece g l = 67108864 - fed_of l.reader
