-- Numbers in decimal digits of a fixed count.
use Rattle.std.specs.Prelude.{ℕ, zero, suc, ◌+◌, ◌/◌, ◌%◌, List, [], ◌∷◌, ◌++◌}

-- the lowest decimal digits of a number, this many, the highest of them first: leading zeros fill the count
unfoldable pub decimal_digits : ℕ → ℕ → List ℕ
decimal_digits zero number = []
decimal_digits (suc count) number = decimal_digits count (number / 10) ++ (48 + number % 10) ∷ []
