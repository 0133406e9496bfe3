-- Numbers as upper case hexadecimal digits of a fixed count.
use Rattle.std.specs.Prelude.{ℕ, zero, suc, ◌+◌, ◌*◌, ◌/◌, ◌%◌, List, [], ◌∷◌, ◌++◌, ◌-◌, nat_lt, nat_le, ◌&&◌, fold, if◌then◌else◌}

-- the digit of a number below 16, as `9` or `A`
abbrev pub digit_of : ℕ → ℕ
digit_of d = if nat_lt d 10 then 48 + d else 55 + d

-- the lowest digits of a number, this many, the highest of them first
unfoldable pub digits_of : ℕ → ℕ → List ℕ
digits_of zero number = []
digits_of (suc count) number = digits_of count (number / 16) ++ digit_of (number % 16) ∷ []

-- the value of a digit, and 0 for any other byte
abbrev pub digit_value : ℕ → ℕ
digit_value digit = if nat_le 48 digit && nat_le digit 57 then digit - 48 else (if nat_le 65 digit && nat_le digit 70 then digit - 55 else 0)

-- the number that digits spell, the highest of them first
abbrev pub number_of : List ℕ → ℕ
number_of digits = fold (λ number digit. number * 16 + digit_value digit) 0 digits
