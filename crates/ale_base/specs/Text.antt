-- Texts and their lengths.
use Rattle.std.specs.Prelude.{ℕ, ◌-◌, ◌^◌, Bool, List, min, nat_eq}
use Rattle.std.specs.Cmp.Lexicographic.{pointwise}

-- whether two texts are the same, byte for byte
abbrev pub is_text : List ℕ → List ℕ → Bool
is_text text other = pointwise nat_eq text other

-- a length or a number of a place as a fault tells it: in 32 bits, whose greatest number stands for all larger ones
abbrev pub told_length : ℕ → ℕ
told_length n = min n (2 ^ 32 - 1)
