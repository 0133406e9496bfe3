use Rattle.std.proofs.Common.{◌≡◌, ◌++◌, drop}
use Rattle.listings.specs.OneDocument.{placed_lines}
use Rattle.listings.proofs.one_document.placed_lines.Given as goal

abbrev pub invariant-loop-at : goal.invariant-loop-at
invariant-loop-at l = l.lines ++ placed_lines (drop l.at l.places) (drop l.at l.records) ≡ placed_lines l.places l.records
