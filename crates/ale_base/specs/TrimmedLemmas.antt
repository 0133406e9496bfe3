-- Lemmas on blanks at the end of a text.
use Rattle.std.specs.Prelude.{◌≡◌, ◌≢◌, ℕ, suc, ◌+◌, ◌-◌, ◌<◌, ◌≤◌, List, [], ◌∷◌, ◌++◌, length, take, drop, replicate}
use Rattle.std.proofs.Common.{inl, inr, ap, sym, subst, refl, ◌∙◌, arith, zero, append_assoc, append-nil, length-append, get_or}
use Rattle.std.proofs.lemmas.Bool.Decides.{eqb_tells}
use Rattle.std.proofs.lemmas.List.{take_more, length-replicate}
use Rattle.std.proofs.Math.Seq.{drop-nil}
use Rattle.std.proofs.lemmas.Grind.{common_steps}
use Rattle.ale_base.specs.Blanks.{before_trimmed, trimmed, padded}

-- a blank at the end is dropped
pub trimmed-blank : (xs : List ℕ) → trimmed (xs ++ 32 ∷ []) ≡ trimmed xs
trimmed-blank [] = refl
trimmed-blank (x ∷ xs) = ap (before_trimmed x) (trimmed-blank xs)

before_trimmed-other : (b : ℕ) → b ≢ 32 → before_trimmed b [] ≡ b ∷ []
before_trimmed-other b other = grind (arith, common_steps)

-- any other byte at the end stays
pub trimmed-last : (xs : List ℕ) (b : ℕ) → b ≢ 32 → trimmed (xs ++ b ∷ []) ≡ xs ++ b ∷ []
trimmed-last [] b other = before_trimmed-other b other
trimmed-last (x ∷ []) b other = ap (before_trimmed x) (trimmed-last [] b other)
trimmed-last (x ∷ y ∷ ys) b other = ap (before_trimmed x) (trimmed-last (y ∷ ys) b other)

length-before_trimmed : (b : ℕ) (text : List ℕ) → length (before_trimmed b text) ≤ suc (length text)
length-before_trimmed b [] = grind (arith, common_steps)
length-before_trimmed b (c ∷ cs) = omega arith

-- a text is no longer than the bytes that it was trimmed from
pub length-trimmed : (bs : List ℕ) → length (trimmed bs) ≤ length bs
length-trimmed [] = omega arith
length-trimmed (b ∷ bs) = omega (arith, length-before_trimmed b (trimmed bs), length-trimmed bs)

one_less : (n : ℕ) → suc n - 1 ≡ n
one_less n = omega arith

padded-before : (b : ℕ) (text bs : List ℕ) → length text ≤ length bs → padded (length bs) text ≡ bs → padded (suc (length bs)) (before_trimmed b text) ≡ b ∷ bs
padded-before b [] bs fits same =
    let whole : length bs - 0 ≡ length bs = omega arith in
    let blanks : replicate (length bs) 32 ≡ bs = rw whole at same in
    let more : suc (length bs) - 0 ≡ suc (length bs) = omega arith in
    elim (eqb_tells b 32) [
      | inl h ↦ rw (h.0, more, blanks) (ap (λ (x : ℕ). x ∷ bs) (sym h.1))
      | inr h ↦ rw (h.0, one_less (length bs), blanks) refl
    ]
padded-before b (c ∷ cs) bs fits same =
    let less : suc (length bs) - suc (suc (length cs)) ≡ length bs - suc (length cs) = omega arith in
    rw less (ap (λ (xs : List ℕ). b ∷ xs) same)

-- the bytes of a field are its text and blanks
pub padded-trimmed : (bs : List ℕ) → padded (length bs) (trimmed bs) ≡ bs
padded-trimmed [] = refl
padded-trimmed (b ∷ bs) = padded-before b (trimmed bs) bs (length-trimmed bs) (padded-trimmed bs)

pub trimmed-blanks : (count : ℕ) (text : List ℕ) → trimmed (text ++ replicate count 32) ≡ trimmed text
trimmed-blanks zero text = ap trimmed (append-nil text)
trimmed-blanks (suc count) text =
    ap trimmed (sym (append_assoc text (32 ∷ []) (replicate count 32))) ∙ trimmed-blanks count (text ++ 32 ∷ []) ∙ trimmed-blank text

-- the same of a field of this width
pub padded-trimmed_at : (width : ℕ) (bs : List ℕ) → length bs ≡ width → padded width (trimmed bs) ≡ bs
padded-trimmed_at width bs fits = subst (λ (n : ℕ). padded n (trimmed bs) ≡ bs) fits (padded-trimmed bs)

-- blanks behind a text are dropped
pub trimmed-padded : (width : ℕ) (text : List ℕ) → trimmed (padded width text) ≡ trimmed text
trimmed-padded width text = trimmed-blanks (width - length text) text

take-last : (bs : List ℕ) (n : ℕ) → 0 < n → n ≤ length bs → take n bs ≡ take (n - 1) bs ++ get_or bs (n - 1) 0 ∷ []
take-last bs n some fits =
    let back : n - 1 + 1 ≡ n = omega arith in
    rw back at (take_more bs (n - 1) 0 (omega arith))

-- the end of a text that is looked at from behind
pub trimmed-take_blank : (bs : List ℕ) (n : ℕ) → 0 < n → n ≤ length bs → get_or bs (n - 1) 0 ≡ 32 → trimmed (take (n - 1) bs) ≡ trimmed (take n bs)
trimmed-take_blank bs n some fits blank = rw (take-last bs n some fits, blank) (sym (trimmed-blank (take (n - 1) bs)))

pub trimmed-take_other : (bs : List ℕ) (n : ℕ) → 0 < n → n ≤ length bs → get_or bs (n - 1) 0 ≢ 32 → trimmed (take n bs) ≡ take n bs
trimmed-take_other bs n some fits other = rw (take-last bs n some fits) (trimmed-last (take (n - 1) bs) (get_or bs (n - 1) 0) other)

-- a text that was trimmed has no blank to drop
pub trimmed-trimmed : (bs : List ℕ) → trimmed (trimmed bs) ≡ trimmed bs
trimmed-trimmed bs = sym (trimmed-padded (length bs) (trimmed bs)) ∙ ap trimmed (padded-trimmed bs)

pub length-padded : (width : ℕ) (text : List ℕ) → length text ≤ width → length (padded width text) ≡ width
length-padded width text fits = simp (length-append, length-replicate) (omega arith)

trimmed-take_blanks : (n count : ℕ) → trimmed (take n (replicate count 32)) ≡ []
trimmed-take_blanks zero count = refl
trimmed-take_blanks (suc n) zero = refl
trimmed-take_blanks (suc n) (suc count) = ap (before_trimmed 32) (trimmed-take_blanks n count)

trimmed-take-blanks : (n count : ℕ) (text : List ℕ) → trimmed (take n (text ++ replicate count 32)) ≡ trimmed (take n text)
trimmed-take-blanks zero count text = refl
trimmed-take-blanks (suc n) count [] = trimmed-take_blanks (suc n) count
trimmed-take-blanks (suc n) count (b ∷ bs) = ap (before_trimmed b) (trimmed-take-blanks n count bs)

trimmed-drop-blanks : (n count : ℕ) (text : List ℕ) → trimmed (drop n (text ++ replicate count 32)) ≡ trimmed (drop n text)
trimmed-drop-blanks zero count text = trimmed-blanks count text
trimmed-drop-blanks (suc n) zero [] = refl
trimmed-drop-blanks (suc n) (suc count) [] = trimmed-drop-blanks n count [] ∙ ap trimmed (drop-nil n)
trimmed-drop-blanks (suc n) count (b ∷ bs) = trimmed-drop-blanks n count bs

-- a field at the front of a padded text, and what stands behind one
pub trimmed-take-padded : (n width : ℕ) (text : List ℕ) → trimmed (take n (padded width text)) ≡ trimmed (take n text)
trimmed-take-padded n width text = trimmed-take-blanks n (width - length text) text

pub trimmed-drop-padded : (n width : ℕ) (text : List ℕ) → trimmed (drop n (padded width text)) ≡ trimmed (drop n text)
trimmed-drop-padded n width text = trimmed-drop-blanks n (width - length text) text
