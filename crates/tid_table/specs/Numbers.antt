-- Ids as the table keeps them.
use Rattle.std.specs.Prelude.{ℕ}
use Rattle.ale_base.specs.Tid.{TidOf}

-- the id of a system and a number there
abbrev pub tid_of : ℕ × ℕ → TidOf
tid_of numbers = record { system = numbers.0; unit = numbers.1 }
