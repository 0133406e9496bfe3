-- The first equals sign of a word.
use Rattle.std.proofs.Common.{◌≡◌, ℕ, zero, suc, ◌<◌, inl, inr, List, [], ◌∷◌, length, get_or, take, drop, refl, ap, arith}
use Rattle.std.proofs.lemmas.Bool.Decides.{eqb_tells}
use Rattle.memchr.specs.Find.{Nowhere, Passes, is_byte}
use Rattle.script_text.specs.Kinds.{before_sign, behind_sign}

-- a word up to its first equals sign, and behind it
pub split_at : (bytes : List ℕ) (n : ℕ) → n < length bytes → get_or bytes n 0 ≡ 61 → Nowhere (Passes (is_byte 61) bytes) 0 n
    → (before_sign bytes ≡ take n bytes) × (behind_sign bytes ≡ drop (suc n) bytes)
split_at [] n within here before = absurd (omega arith)
split_at (b ∷ bs) zero within here before = rw here (refl, refl)
split_at (b ∷ bs) (suc n) within here before =
    let behind = split_at bs n (omega arith) here (λ k low high. before (suc k) (omega arith) (omega arith)) in
    elim (eqb_tells b 61) [
      | inl is ↦ absurd (before 0 (omega arith) (omega arith) is.0)
      | inr other ↦ rw (other.0) (ap (λ front. b ∷ front) behind.0, behind.1)
    ]

-- a word that has none
pub no_sign : (bytes : List ℕ) → Nowhere (Passes (is_byte 61) bytes) 0 (length bytes) → (before_sign bytes ≡ bytes) × (behind_sign bytes ≡ [])
no_sign [] nowhere = (refl, refl)
no_sign (b ∷ bs) nowhere =
    let behind = no_sign bs (λ k low high. nowhere (suc k) (omega arith) (omega arith)) in
    elim (eqb_tells b 61) [
      | inl is ↦ absurd (nowhere 0 (omega arith) (omega arith) is.0)
      | inr other ↦ rw (other.0) (ap (λ front. b ∷ front) behind.0, behind.1)
    ]
