-- Numbers of at most fifteen digits.
use Rattle.std.proofs.Common.{◌≡◌, ℕ, zero, suc, ◌+◌, ◌-◌, ◌*◌, ◌^◌, ◌<◌, ◌≤◌, subst, arith}
use Rattle.std.proofs.Math.Nat.{pow-suc}

power_grows : (i k : ℕ) → 10 ^ i ≤ 10 ^ (i + k)
power_grows i zero = let same : i + 0 ≡ i = omega arith in rw same (omega arith)
power_grows i (suc k) =
    let more : i + suc k ≡ suc (i + k) = omega arith in
    rw (more, pow-suc 10 (i + k)) (omega (arith, power_grows i k))

-- a number of fewer than fifteen digits has room for another
pub one_digit_more : (i n : ℕ) → i < 15 → n < 10 ^ i → n * 10 + 10 ≤ 1000000000000000
one_digit_more i n few small =
    let rest : (suc i + (14 - i)) ≡ 15 = omega arith in
    let whole : 10 ^ suc i ≤ 10 ^ 15 = subst (λ (m : ℕ). 10 ^ suc i ≤ 10 ^ m) rest (power_grows (suc i) (14 - i)) in
    omega (arith, pow-suc 10 i, whole)
