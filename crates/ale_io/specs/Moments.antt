-- What a clock in memory gives.
use Rattle.std.specs.Prelude.{ℕ, ◌-◌, List, ◌++◌, length, take, replicate, slice_get, slice_index_or}
use Rattle.std.specs.Option.{unwrap_or}

-- the last of some moments; 0 where there is none
abbrev pub last_moment : List ℕ → ℕ
last_moment moments = slice_index_or moments (length moments - 1) 0

-- what a call gives after so many others: the next moment of the list, and the last one where it has no more
abbrev pub moment_at : List ℕ → ℕ → ℕ
moment_at moments calls = unwrap_or (slice_get moments calls) (last_moment moments)

-- what so many calls gave: the first moments of the list, as many, and the last one for each call more
abbrev pub given_by : List ℕ → ℕ → List ℕ
given_by moments calls = take calls moments ++ replicate (calls - length moments) (last_moment moments)
