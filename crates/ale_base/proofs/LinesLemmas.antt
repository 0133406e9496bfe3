-- The lines of some bytes, found by their ends.
use Rattle.std.proofs.Common.{◌≡◌, ℕ, zero, suc, ◌+◌, ◌<◌, ◌≤◌, ◌&&◌, Bool, true, false, nat_eq, inl, inr, List, [], ◌∷◌, ◌++◌, length, take, refl, sym, ap}
use Rattle.std.proofs.Common.{subst, ◌∙◌, arith}
use Rattle.std.specs.List.{AllByRecursion}
use Rattle.std.proofs.lemmas.Bool.Decides.{eqb_tells}
use Rattle.std.proofs.lemmas.Bool.{cases_Bool, false≢true}
use Rattle.std.proofs.lemmas.List.{take_all}
use Rattle.memchr.specs.Find.{Nowhere, Passes, is_byte}
use Rattle.ale_base.specs.Lines.{onto_first, ends_here, lines_of, without_return, IsNoEnd}

no_end_next : (r : Bool) → (r && false) ≡ false
no_end_next r = elim r as (λ b. (b && false) ≡ false) [ true ↦ refl | false ↦ refl ]

-- a byte that ends no line, and is no CR before an LF
first_byte : (b : ℕ) (bytes : List ℕ) → nat_eq b 10 ≡ false → ends_here bytes ≡ false → lines_of (b ∷ bytes) ≡ onto_first b (lines_of bytes)
first_byte b bytes no_end next = rw (no_end, next, no_end_next (nat_eq b 13)) refl

-- a line that an LF ends
pub lines_of-ended : (text rest : List ℕ) → AllByRecursion IsNoEnd text → lines_of (text ++ 10 ∷ rest) ≡ without_return text ∷ lines_of rest
lines_of-ended [] rest unended = refl
lines_of-ended (b ∷ []) rest unended =
    elim (cases_Bool (nat_eq b 13)) [
      | inl is ↦ rw (unended.0, is) refl
      | inr other ↦ rw (unended.0, other) refl
    ]
lines_of-ended (b ∷ c ∷ line) rest unended =
    first_byte b (c ∷ (line ++ 10 ∷ rest)) unended.0 unended.1.0 ∙ ap (onto_first b) (lines_of-ended (c ∷ line) rest unended.1)

-- a line that lacks its end, by its first byte
lines_of-last : (b : ℕ) (bs : List ℕ) → AllByRecursion IsNoEnd (b ∷ bs) → lines_of (b ∷ bs) ≡ (b ∷ bs) ∷ []
lines_of-last b [] unended = rw (unended.0, no_end_next (nat_eq b 13)) refl
lines_of-last b (c ∷ cs) unended = first_byte b (c ∷ cs) unended.0 unended.1.0 ∙ ap (onto_first b) (lines_of-last c cs unended.1)

-- a line that lacks its end
pub lines_of-unended : (line : List ℕ) → nat_eq (length line) 0 ≡ false → AllByRecursion IsNoEnd line → lines_of line ≡ line ∷ []
lines_of-unended [] filled unended = absurd (false≢true (sym filled))
lines_of-unended (b ∷ bs) filled unended = lines_of-last b bs unended

length-onto_first : (b : ℕ) (lines : List (List ℕ)) → length (onto_first b lines) ≤ length lines + 1
length-onto_first b [] = omega arith
length-onto_first b (line ∷ lines) = omega arith

-- there are no more lines than bytes
pub length-lines_of : (bytes : List ℕ) → length (lines_of bytes) ≤ length bytes
length-lines_of [] = omega arith
length-lines_of (b ∷ rest) =
    let fewer = length-lines_of rest in
    elim (cases_Bool (nat_eq b 10)) [
      | inl ends ↦ rw ends (omega arith)
      | inr unended ↦ rw unended (elim (cases_Bool (nat_eq b 13 && ends_here rest)) [
        | inl is ↦ rw is (omega arith)
        | inr other ↦ rw other (omega (arith, length-onto_first b (lines_of rest)))
      ])
    ]

-- the CR at the end of a line
pub without_return-return : (front : List ℕ) → without_return (front ++ 13 ∷ []) ≡ front
without_return-return [] = refl
without_return-return (b ∷ []) = refl
without_return-return (b ∷ c ∷ front) = ap (λ line. b ∷ line) (without_return-return (c ∷ front))

-- any other byte there
pub without_return-other : (front : List ℕ) (last : ℕ) → nat_eq last 13 ≡ false → without_return (front ++ last ∷ []) ≡ front ++ last ∷ []
without_return-other [] last other = rw other refl
without_return-other (b ∷ []) last other = rw other refl
without_return-other (b ∷ c ∷ front) last other = ap (λ line. b ∷ line) (without_return-other (c ∷ front) last other)

-- bytes up to the first LF have none
no_end_below : (bytes : List ℕ) (n : ℕ) → n ≤ length bytes → Nowhere (Passes (is_byte 10) bytes) 0 n → AllByRecursion IsNoEnd (take n bytes)
no_end_below [] zero within nowhere = tt
no_end_below [] (suc n) within nowhere = absurd (omega arith)
no_end_below (b ∷ bs) zero within nowhere = tt
no_end_below (b ∷ bs) (suc n) within nowhere = (
  elim (eqb_tells b 10) [ inl h ↦ absurd (nowhere 0 (omega arith) (omega arith) h.0) | inr h ↦ h.0 ],
  no_end_below bs n (omega arith) (λ k low high. nowhere (suc k) (omega arith) (omega arith)),
)

-- the bytes before the first LF
pub IsNoEnd-before : (bytes : List ℕ) (n : ℕ) → n < length bytes → Nowhere (Passes (is_byte 10) bytes) 0 n → AllByRecursion IsNoEnd (take n bytes)
IsNoEnd-before bytes n within nowhere = no_end_below bytes n (omega arith) nowhere

-- bytes in which there is none
pub IsNoEnd-all : (bytes : List ℕ) → Nowhere (Passes (is_byte 10) bytes) 0 (length bytes) → AllByRecursion IsNoEnd bytes
IsNoEnd-all bytes nowhere = subst (AllByRecursion IsNoEnd) (take_all (length bytes) bytes (omega arith))
    (no_end_below bytes (length bytes) (omega arith) nowhere)
