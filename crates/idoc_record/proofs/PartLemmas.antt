-- A text that is written at one place of a record, and what stands at the others.
use Rattle.std.proofs.Common.{◌≡◌, ℕ, ◌+◌, ◌≤◌, Bool, true, inl, inr, ◌||◌, nat_le, List, ◌++◌, length, take, drop, refl, sym, ap, subst, ◌∙◌, arith}
use Rattle.std.proofs.Common.{append_assoc, length-append}
use Rattle.std.proofs.lemmas.List.{take-append-drop, take-append-le, drop-drop, drop-append-le, length-take, length-drop, length-replicate}
use Rattle.std.proofs.lemmas.Slice.{drop-append-drop}
use Rattle.std.proofs.Math.Seq.{drop-append_seam, take-append_seam}
use Rattle.std.proofs.lemmas.Bool.{leb-true, or_cases}
use Rattle.ale_base.specs.Blanks.{trimmed, padded}
use Rattle.ale_base.specs.TrimmedLemmas.{trimmed-padded, length-padded, length-trimmed}
use Rattle.idoc_record.specs.declared.span.Span.{Span}
use Rattle.idoc_record.specs.Parts.{part, text_at, with_text}

-- one place ends before the other begins
abbrev pub is_apart : Span → Span → Bool
is_apart p q = nat_le (q.offset + q.length) p.offset || nat_le (p.offset + p.length) q.offset

-- a part of the front does not depend on what follows
part_of-front : (offset count : ℕ) (front rest : List ℕ) → offset + count ≤ length front →
    take count (drop offset (front ++ rest)) ≡ take count (drop offset front)
part_of-front offset count front rest fits =
    let within : offset ≤ length front = omega arith in
    let room : count ≤ length (drop offset front) = simp length-drop (omega arith) in
    rw (drop-append-le, take-append-le) refl

-- a text is no longer than its place
pub length-text_at : (p : Span) (bytes : List ℕ) → length (text_at p bytes) ≤ p.length
length-text_at p bytes = omega (arith, length-trimmed (part p bytes), length-take p.length (drop p.offset bytes))

-- the record keeps its length
pub length-with_text : (p : Span) (text bytes : List ℕ) → length text ≤ p.length → p.offset + p.length ≤ length bytes →
    length (with_text p text bytes) ≡ length bytes
length-with_text p text bytes fits within =
    simp (length-append, length-replicate, length-take, length-drop) (omega arith)

drop_front : (n : ℕ) (front rest : List ℕ) → length front ≡ n → drop n (front ++ rest) ≡ rest
drop_front n front rest same = subst (λ (m : ℕ). drop m (front ++ rest) ≡ rest) same (drop-append_seam front rest)

take_front : (n : ℕ) (front rest : List ℕ) → length front ≡ n → take n (front ++ rest) ≡ front
take_front n front rest same = subst (λ (m : ℕ). take m (front ++ rest) ≡ front) same (take-append_seam front rest)

length-take-within : (n : ℕ) (bytes : List ℕ) → n ≤ length bytes → length (take n bytes) ≡ n
length-take-within n bytes within = simp length-take (omega arith)

-- the text stands where it was written
pub text_at-same : (p : Span) (text bytes : List ℕ) → length text ≤ p.length → p.offset + p.length ≤ length bytes →
    text_at p (with_text p text bytes) ≡ trimmed text
text_at-same p text bytes fits within =
    ap trimmed (ap (take p.length) (drop_front p.offset (take p.offset bytes) (padded p.length text ++ drop (p.offset + p.length) bytes)
    (length-take-within p.offset bytes (omega arith)))
    ∙ take_front p.length (padded p.length text) (drop (p.offset + p.length) bytes) (length-padded p.length text fits))
    ∙ trimmed-padded p.length text

part-before : (p q : Span) (text bytes : List ℕ) → p.offset + p.length ≤ length bytes → q.offset + q.length ≤ p.offset →
    part q (with_text p text bytes) ≡ part q bytes
part-before p q text bytes within before =
    let front = take p.offset bytes in
    let long : length front ≡ p.offset = length-take-within p.offset bytes (omega arith) in
    let room : q.offset + q.length ≤ length front = omega arith in
    part_of-front q.offset q.length front (padded p.length text ++ drop (p.offset + p.length) bytes) room
    ∙ sym (part_of-front q.offset q.length front (drop p.offset bytes) room)
    ∙ ap (part q) (take-append-drop p.offset bytes)

part-behind : (p q : Span) (text bytes : List ℕ) → length text ≤ p.length → p.offset + p.length ≤ length bytes → p.offset + p.length ≤ q.offset →
    part q (with_text p text bytes) ≡ part q bytes
part-behind p q text bytes fits within behind =
    let written = take p.offset bytes ++ padded p.length text in
    let long : length written ≡ p.offset + p.length = simp (length-append, length-replicate, length-take) (omega arith) in
    ap (part q) (sym (append_assoc (take p.offset bytes) (padded p.length text) (drop (p.offset + p.length) bytes)))
    ∙ ap (take q.length) (drop-append-drop (p.offset + p.length) bytes written q.offset behind long)

-- what stands elsewhere stays
pub part-apart : (p q : Span) (text bytes : List ℕ) → length text ≤ p.length → p.offset + p.length ≤ length bytes → is_apart p q ≡ true →
    part q (with_text p text bytes) ≡ part q bytes
part-apart p q text bytes fits within apart =
    elim (or_cases (nat_le (q.offset + q.length) p.offset) (nat_le (p.offset + p.length) q.offset) apart) [
      | inl h ↦ part-before p q text bytes within (leb-true (q.offset + q.length) p.offset h)
      | inr h ↦ part-behind p q text bytes fits within (leb-true (p.offset + p.length) q.offset h)
    ]

-- a record that is put together of its parts
pub with_text-parts : (p : Span) (text bytes front after place behind : List ℕ) → front ≡ take p.offset bytes → after ≡ drop p.offset bytes
    → length place ≡ p.length → behind ≡ drop p.length after → front ++ (padded (length place) text ++ behind) ≡ with_text p text bytes
with_text-parts p text bytes front after place behind is_front is_after long is_behind =
    rw (is_front, long, is_behind, is_after, drop-drop) refl
