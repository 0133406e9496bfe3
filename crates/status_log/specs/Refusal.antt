-- The numbers of refusals.
use Rattle.std.specs.Prelude.{ℕ, Option, Some, None, IsSome}
use Rattle.status_log.specs.declared.refusal.Refusal.{Refusal}
use Rattle.status_log.specs.declared.refusal.Refusal.TheVariants.{N1, N2, N3, N4, N5, N6, N7, N8, N9, N10, N11, N12, N13, N14, N15}
use Rattle.status_log.specs.declared.refusal.Refusal.TheVariants.{Volume, OutOfMemory}

-- the number by which an operator knows a refusal, if it has one
abbrev pub number_of : Refusal → Option ℕ
number_of N1 = Some 1
number_of N2 = Some 2
number_of N3 = Some 3
number_of (N4 fault) = Some 4
number_of N5 = Some 5
number_of N6 = Some 6
number_of N7 = Some 7
number_of N8 = Some 8
number_of N9 = Some 9
number_of (N10 length) = Some 10
number_of (N11 count) = Some 11
number_of N12 = Some 12
number_of (N13 count) = Some 13
number_of (N14 words) = Some 14
number_of (N15 path) = Some 15
number_of Volume = None
number_of OutOfMemory = None

-- it is refused by a number
abbrev pub IsNumbered : Refusal → Type 0
IsNumbered refusal = IsSome (number_of refusal)
