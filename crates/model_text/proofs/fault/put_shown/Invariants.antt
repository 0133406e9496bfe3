use Rattle.std.proofs.Common.{◌≡◌, ◌++◌, drop}
use Rattle.std.specs.List.{flat_map}
use Rattle.model_text.specs.Words.{shown_byte}
use Rattle.model_text.proofs.fault.put_shown.Given as goal

abbrev pub invariant-loop-byte : goal.invariant-loop-byte
invariant-loop-byte l = l.words.items ++ flat_map shown_byte (drop l.byte-index l.bytes) ≡ l.initial.words.items ++ flat_map shown_byte l.bytes
