-- The words of items that find nothing.
use Rattle.std.specs.Prelude.{ℕ, Bool, List, codes}
use Rattle.ale_base.specs.Text.{is_text}

-- an item of this word makes a disk
abbrev pub sets_up : List ℕ → Bool
sets_up word = is_text word (codes "disk")
