-- Lemmas on hexadecimal digits.
use Rattle.std.proofs.Common.{◌≡◌, ℕ, zero, suc, ◌+◌, ◌-◌, ◌*◌, ◌/◌, ◌%◌, ◌^◌, ◌<◌, ◌≤◌, [], ◌∷◌, ◌∙◌, subst, arith}
use Rattle.std.proofs.Math.Nat.{pow-suc}
use Rattle.std.proofs.lemmas.Bool.Decides.{nat_tests}
use Rattle.std.proofs.lemmas.List.Sums.{fold-append}
use Rattle.ale_base.specs.Hexadecimal.{digit_of, digits_of, digit_value, number_of}

power_grows : (i k : ℕ) → 16 ^ i ≤ 16 ^ (i + k)
power_grows i zero = let same : i + 0 ≡ i = omega arith in rw same (omega arith)
power_grows i (suc k) =
    let more : i + suc k ≡ suc (i + k) = omega arith in
    rw (more, pow-suc 16 (i + k)) (omega (arith, power_grows i k))

-- a number of fewer than twelve digits has room for another
pub one_digit_more : (i n : ℕ) → i < 12 → n < 16 ^ i → n * 16 + 16 ≤ 2 ^ 48
one_digit_more i n few small =
    let rest : (suc i + (11 - i)) ≡ 12 = omega arith in
    let whole : 16 ^ suc i ≤ 16 ^ 12 = subst (λ (m : ℕ). 16 ^ suc i ≤ 16 ^ m) rest (power_grows (suc i) (11 - i)) in
    omega (arith, pow-suc 16 i, whole)

digit_value-digit_of : (d : ℕ) → d < 16 → digit_value (digit_of d) ≡ d
digit_value-digit_of d small = grind (arith, nat_tests)

-- the digits of a number that they have room for spell it
pub number_of-digits_of : (count n : ℕ) → n < 16 ^ count → number_of (digits_of count n) ≡ n
unfolding digits_of
number_of-digits_of zero n small = omega arith
number_of-digits_of (suc count) n small =
    let part : n / 16 < 16 ^ count = omega (arith, pow-suc 16 count) in
    let digit : n % 16 < 16 = omega arith in
    fold-append (λ (number digit : ℕ). number * 16 + digit_value digit) 0 (digits_of count (n / 16)) (digit_of (n % 16) ∷ [])
    ∙ rw (number_of-digits_of count (n / 16) part, digit_value-digit_of (n % 16) digit) (omega arith)
