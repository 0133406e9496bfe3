-- The words of a line, found by their ends.
use Rattle.std.proofs.lemmas.Bool.{false≢true}
use Rattle.std.proofs.Common.{◌≡◌, ℕ, zero, suc, ◌<◌, ◌≤◌, true, false, List, [], ◌∷◌, ◌++◌, length, get_or, take, drop, refl, sym, ap, ◌∙◌, arith, drop-cons}
use Rattle.std.specs.List.{AllByRecursion}
use Rattle.std.proofs.lemmas.List.{take-append-drop}
use Rattle.ale_base.specs.Lines.{onto_first}
use Rattle.script_text.specs.Words.{is_gap, ends_word, words_of, IsNoGap}

-- a space or a tab at the front is no part of a word
pub words_of-gap : (bytes : List ℕ) (i : ℕ) → i < length bytes → is_gap (get_or bytes i 0) ≡ true → words_of (drop i bytes) ≡ words_of (drop (suc i) bytes)
words_of-gap bytes i within gap = rw (drop-cons bytes i 0 within, gap) refl

-- a byte of a word that goes on
next_byte : (b : ℕ) (bytes : List ℕ) → is_gap b ≡ false → ends_word bytes ≡ false → words_of (b ∷ bytes) ≡ onto_first b (words_of bytes)
next_byte b bytes no_gap goes_on = rw (no_gap, goes_on) refl

-- bytes of a word, and what comes behind it
word_before : (word rest : List ℕ) → 0 < length word → AllByRecursion IsNoGap word → ends_word rest ≡ true → words_of (word ++ rest) ≡ word ∷ words_of rest
word_before [] rest some all ends = absurd (omega arith)
word_before (b ∷ []) rest some all ends = rw (all.0, ends) refl
word_before (b ∷ c ∷ word) rest some all ends =
    next_byte b (c ∷ (word ++ rest)) all.0 all.1.0 ∙ ap (onto_first b) (word_before (c ∷ word) rest (omega arith) all.1 ends)

-- so the first word ends where a space, a tab or the end comes
pub words_of-word : (bytes : List ℕ) (n : ℕ) → 0 < n → n ≤ length bytes → AllByRecursion IsNoGap (take n bytes) → ends_word (drop n bytes) ≡ true
    → words_of bytes ≡ take n bytes ∷ words_of (drop n bytes)
words_of-word bytes n some within all ends =
    let long : 0 < length (take n bytes) = grind (arith) in
    ap words_of (sym (take-append-drop n bytes)) ∙ word_before (take n bytes) (drop n bytes) long all ends

pub ends_word-gap : (bytes : List ℕ) (n : ℕ) → n < length bytes → is_gap (get_or bytes n 0) ≡ true → ends_word (drop n bytes) ≡ true
ends_word-gap bytes n within gap = rw (drop-cons bytes n 0 within) gap

pub ends_word-end : (bytes : List ℕ) → ends_word (drop (length bytes) bytes) ≡ true
ends_word-end [] = refl
ends_word-end (b ∷ bs) = ends_word-end bs

-- a gap that is not the first byte
pub gap_behind : (bytes : List ℕ) (n : ℕ) → is_gap (get_or bytes 0 0) ≡ false → is_gap (get_or bytes n 0) ≡ true → 0 < n
gap_behind bytes zero first gap = absurd (false≢true (sym first ∙ gap))
gap_behind bytes (suc n) first gap = omega arith
