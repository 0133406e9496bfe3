use Rattle.std.proofs.Common.{◌≡◌, ◌++◌, drop}
use Rattle.unit_works.specs.Wires.{letters_said}
use Rattle.unit_works.proofs.line.Line.append.Given as goal

abbrev pub invariant-loop-byte : goal.invariant-loop-byte
invariant-loop-byte l = l.self ++ letters_said (drop l.byte-index l.bytes) ≡ l.fn.self ++ letters_said l.bytes
