use Rattle.std.proofs.Common.{take}
use Rattle.std.specs.List.{AllByRecursion}
use Rattle.script_text.specs.Words.{IsNoGap}
use Rattle.script_text.proofs.words.word_len.Given as goal

abbrev pub invariant-loop-at : goal.invariant-loop-at
invariant-loop-at l = AllByRecursion IsNoGap (take l.at l.bytes)
