use Rattle.std.proofs.Common.{◌≡◌, drop}
use Rattle.script_text.specs.Words.{words_of}
use Rattle.script_text.proofs.words.gap_len.Given as goal

abbrev pub invariant-loop-at : goal.invariant-loop-at
invariant-loop-at l = words_of l.bytes ≡ words_of (drop l.at l.bytes)
