-- The words of items that find nothing.
use Rattle.std.specs.Prelude.{ℕ, Bool, ◌||◌, List, codes}
use Rattle.ale_base.specs.Text.{is_text}

-- an item of this word sets up a text
abbrev pub sets_up : List ℕ → Bool
sets_up word = is_text word (codes "head") || is_text word (codes "before") || is_text word (codes "model")
