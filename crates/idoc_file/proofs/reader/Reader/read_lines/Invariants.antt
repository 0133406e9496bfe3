use Rattle.std.proofs.Common.{◌≡◌, ℕ, ◌+◌, ◌≤◌, List, ◌++◌, length}
use Rattle.idoc_file.specs.Reading.{IsReading, IsGone}
use Rattle.idoc_file.proofs.reader.Reader.read_lines.Given as goal

abbrev pub invariant-loop-end : goal.invariant-loop-end
invariant-loop-end l = record {
  reading : (bytes : List ℕ) → length bytes + length l.piece ≤ 67108864 → IsReading l.fn.self.read l.fn.self.unfinished.items bytes
      → (taken : List ℕ) × (taken ++ l.rest ≡ l.piece) × IsReading l.self.read l.self.unfinished.items (bytes ++ taken);
  fed : l.self.fed ≡ l.fn.self.fed;
  gone : IsGone l.fn.self → IsGone l.self;
}

abbrev pub decreases-loop-end : goal.decreases-loop-end
decreases-loop-end l = length l.rest
