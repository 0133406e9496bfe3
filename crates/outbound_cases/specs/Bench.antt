-- The words of items that find nothing.
use Rattle.std.specs.Prelude.{ℕ, Bool, ◌||◌, List, codes}
use Rattle.ale_base.specs.Text.{is_text}

-- an item of this word sets up the model or the master
abbrev pub sets_up : List ℕ → Bool
sets_up word = is_text word (codes "model") || is_text word (codes "control") || is_text word (codes "records")
