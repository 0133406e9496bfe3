use Rattle.std.proofs.Common.{◌≡◌, true, length, get_or, sym, ◌∙◌, arith}
use Rattle.script_text.specs.Words.{is_gap}
use Rattle.script_text.proofs.WordsLemmas.{words_of-word, ends_word-gap, ends_word-end, gap_behind}
use Rattle.script_text.proofs.words.word_len.Goals as goal

pub returns-then-is_gap-clause-word : goal.returns-then-is_gap-clause-word
returns-then-is_gap-clause-word c =
    let bytes = c.args.bytes.now in
    let at = c.loop-at.at in
    let gap : is_gap (get_or bytes at 0) ≡ true = sym c.is_gap.ensures ∙ c.if-is_gap.true in
    words_of-word bytes at (gap_behind bytes at c.requires.first gap) (omega arith) c.loop-at.invariant (ends_word-gap bytes at c.loop-at-test.true gap)

pub returns-clause-word : goal.returns-clause-word
returns-clause-word c =
    let bytes = c.args.bytes.now in
    let all : c.loop-at.at ≡ length bytes = omega arith in
    words_of-word bytes (length bytes) c.requires.some (omega arith) (rw all at c.loop-at.invariant) (ends_word-end bytes)
