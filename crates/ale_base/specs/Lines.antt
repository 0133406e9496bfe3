-- The lines of a file.
use Rattle.std.specs.Prelude.{◌≡◌, ℕ, ◌==◌, ◌&&◌, Bool, false, List, [], ◌∷◌, if◌then◌else◌}

-- the byte at the front of the first line; where there is none, it is a line of its own
abbrev pub onto_first : ℕ → List (List ℕ) → List (List ℕ)
onto_first b [] = (b ∷ []) ∷ []
onto_first b (line ∷ lines) = (b ∷ line) ∷ lines

-- an LF comes next
abbrev pub ends_here : List ℕ → Bool
ends_here [] = false
ends_here (b ∷ rest) = b == 10

-- each line ends in LF or in CR LF, which are no part of it; the last one may lack its end. A CR with no LF behind it is a
-- byte of the line
abbrev pub lines_of : List ℕ → List (List ℕ)
lines_of [] = []
lines_of (b ∷ rest) =
    if b == 10 then [] ∷ lines_of rest
    else (if (b == 13) && ends_here rest then lines_of rest else onto_first b (lines_of rest))

-- for `lines_of`: what an LF ends, without the CR before that LF
abbrev pub without_return : List ℕ → List ℕ
without_return [] = []
without_return (b ∷ []) = if b == 13 then [] else b ∷ []
without_return (b ∷ c ∷ rest) = b ∷ without_return (c ∷ rest)

-- the byte is no LF
abbrev pub IsNoEnd : ℕ → Type 0
IsNoEnd b = (b == 10) ≡ false
