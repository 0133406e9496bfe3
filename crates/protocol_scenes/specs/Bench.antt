-- The words of items that are no steps.
use Rattle.std.specs.Prelude.{ℕ, Bool, ◌||◌, List, codes}
use Rattle.ale_base.specs.Text.{is_text}

-- an item of this word sets up systems, units, or logs
abbrev pub sets_up : List ℕ → Bool
sets_up word = is_text word (codes "systems") || is_text word (codes "unit") || is_text word (codes "committed") || is_text word (codes "given")
