-- Triples of numbers.
use Rattle.std.specs.Prelude.{ℕ, ◌&&◌, Bool, nat_eq}

-- whether two triples have the same numbers
abbrev pub same_triple : ℕ × ℕ × ℕ → ℕ × ℕ × ℕ → Bool
same_triple triple other = nat_eq triple.0 other.0 && (nat_eq triple.1 other.1 && nat_eq triple.2 other.2)
