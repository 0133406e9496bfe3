-- The words of a line.
use Rattle.std.specs.Prelude.{◌≡◌, ℕ, ◌==◌, ◌||◌, Bool, true, false, List, [], ◌∷◌, map, if◌then◌else◌}
use Rattle.std.specs.Borrow.{Bor}
use Rattle.ale_base.specs.Lines.{onto_first}

-- a space or a tab
abbrev pub is_gap : ℕ → Bool
is_gap b = (b == 32) || (b == 9)

-- no byte of the same word comes next
abbrev pub ends_word : List ℕ → Bool
ends_word [] = true
ends_word (b ∷ rest) = is_gap b

-- a word is bytes side by side; spaces and tabs part words and are no part of any
abbrev pub words_of : List ℕ → List (List ℕ)
words_of [] = []
words_of (b ∷ rest) =
    if is_gap b then words_of rest else (if ends_word rest then (b ∷ []) ∷ words_of rest else onto_first b (words_of rest))

-- for `words_of`: the byte is one of a word
abbrev pub IsNoGap : ℕ → Type 0
IsNoGap b = is_gap b ≡ false

-- slices as the texts that they hold
abbrev pub texts : List (Bor (List ℕ)) → List (List ℕ)
texts words = map (λ (w : Bor (List ℕ)). w.now) words
