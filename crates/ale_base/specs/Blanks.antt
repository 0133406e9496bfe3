-- Texts in fields of a fixed width: blanks at the end of a field are no part of its text.
use Rattle.std.specs.Prelude.{ℕ, ◌-◌, ◌==◌, List, [], ◌∷◌, ◌++◌, length, replicate, if◌then◌else◌}

-- a byte and a text behind it that ends in no blank; a blank with nothing behind it is dropped
abbrev pub before_trimmed : ℕ → List ℕ → List ℕ
before_trimmed b [] = if b == 32 then [] else b ∷ []
before_trimmed b (c ∷ cs) = b ∷ c ∷ cs

-- the text without the blanks at its end
abbrev pub trimmed : List ℕ → List ℕ
trimmed [] = []
trimmed (b ∷ bs) = before_trimmed b (trimmed bs)

-- the text and blanks behind it, up to this many bytes
abbrev pub padded : ℕ → List ℕ → List ℕ
padded width text = text ++ replicate (width - length text) 32
