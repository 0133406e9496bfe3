-- Bytes have one answer.
use Rattle.std.specs.Int.{w32, to_be_bytes, from_be_bytes}
use Rattle.std.proofs.Common.{◌≡◌, ◌≢◌, ◌⊎◌, inl, inr, ℕ, ◌+◌, ◌<◌, ◌^◌, List, [], ◌∷◌, ◌++◌, length, take, drop, refl, sym, ◌∙◌, ap, subst, arith}
use Rattle.std.proofs.Common.{length-append, append_assoc}
use Rattle.std.proofs.lemmas.List.{take_at, drop_at}
use Rattle.std.proofs.lemmas.Nat.{from_be_bytes-to_be_bytes_4}
use Rattle.byte_journal.specs.Log.{open_gate, most_bytes, framed, records, AreBodies, BeginsWithLastGate, Stands, BeginsWithRecord, DamagedAt, HasOneAnswer}
use Rattle.byte_journal.proofs.LogLemmas.{length-framed, records-append}

-- a front of one length in both
same_parts : (a b x y : List ℕ) → length a ≡ length b → a ++ x ≡ b ++ y → (a ≡ b) × (x ≡ y)
same_parts a b x y size same = (
  sym (take_at a x (length a) refl) ∙ ap (λ (l : List ℕ). take (length a) l) same ∙ take_at b y (length a) (sym size),
  sym (drop_at a x (length a) refl)
      ∙ ap (λ (l : List ℕ). drop (length a) l) same ∙ drop_at b y (length a) (sym size),
)

same_length : (n m : ℕ) → n < 2 ^ 32 → m < 2 ^ 32 → to_be_bytes w32 n ≡ to_be_bytes w32 m → n ≡ m
same_length n m small other same = sym (from_be_bytes-to_be_bytes_4 n small) ∙ ap (from_be_bytes w32) same ∙ from_be_bytes-to_be_bytes_4 m other

-- one record begins in one way
same_record : (a b x y : List ℕ) → length a < 2 ^ 32 → length b < 2 ^ 32 → framed a ++ x ≡ framed b ++ y → (a ≡ b) × (x ≡ y)
same_record a b x y small other same =
    let split : to_be_bytes w32 (length a) ++ (a ++ x) ≡ to_be_bytes w32 (length b) ++ (b ++ y) =
    sym (append_assoc (to_be_bytes w32 (length a)) a x) ∙ same ∙ append_assoc (to_be_bytes w32 (length b)) b y in
    let parts = same_parts (to_be_bytes w32 (length a)) (to_be_bytes w32 (length b)) (a ++ x) (b ++ y) refl split in
    same_parts a b x y (same_length (length a) (length b) small other parts.0) parts.1

-- one log goes on where the other ends
GoesOn : List (List ℕ) → List ℕ → List (List ℕ) → List ℕ → Type 0
GoesOn log rest other more = (body : List ℕ) × (tail : List (List ℕ)) × (other ≡ log ++ body ∷ tail) × (rest ≡ records (body ∷ tail) ++ more)

first_record : (body : List ℕ) (log : List (List ℕ)) (rest : List ℕ) → records (body ∷ log) ++ rest ≡ open_gate ∷ (framed body ++ (records log ++ rest))
first_record body log rest = append_assoc (open_gate ∷ framed body) (records log) rest

length-first : (body : List ℕ) (log : List (List ℕ)) → length (records (body ∷ log)) ≡ 5 + length body + length (records log)
length-first body log = omega (arith, length-append (open_gate ∷ framed body) (records log), length-framed body)

compare : (log other : List (List ℕ)) (rest more : List ℕ) → length (records log) < most_bytes → length (records other) < most_bytes →
    records log ++ rest ≡ records other ++ more
    → ((log ≡ other) × (rest ≡ more)) ⊎ GoesOn log rest other more ⊎ GoesOn other more log rest
unfolding GoesOn
compare [] [] rest more small fits same = inl (refl, same)
compare [] (b ∷ other) rest more small fits same = inr (inl (b, other, refl, same))
compare (a ∷ log) [] rest more small fits same = inr (inr (a, log, refl, sym same))
compare (a ∷ log) (b ∷ other) rest more small fits same =
    let opened : open_gate ∷ (framed a ++ (records log ++ rest)) ≡ open_gate ∷ (framed b ++ (records other ++ more)) = sym (first_record a log rest) ∙ same
    ∙ first_record b other more in
    let behind : framed a ++ (records log ++ rest) ≡ framed b ++ (records other ++ more) = cc in
    let parts = same_record a b (records log ++ rest) (records other ++ more) (omega (arith, small, length-first a log))
    (omega (arith, fits, length-first b other)) behind in
    let first : a ≡ b = parts.0 in
    elim (compare log other rest more (omega (arith, small, length-first a log)) (omega (arith, fits, length-first b other)) parts.1) [
      | inl is ↦ inl ((λ i. first i ∷ is.0 i), is.1)
      | inr (inl on) ↦ inr (inl (on.0, on.1, (λ i. sym first i ∷ on.2 i), on.3))
      | inr (inr on) ↦ inr (inr (on.0, on.1, (λ i. first i ∷ on.2 i), on.3))
    ]

-- a record behind an open gate: more than one byte
not_last : (body : List ℕ) (tail : List (List ℕ)) (more : List ℕ) → BeginsWithLastGate (records (body ∷ tail) ++ more) → ⊥
not_last body tail more last = last refl

AreBodies-first : (log tail : List (List ℕ)) (body : List ℕ) → AreBodies (log ++ body ∷ tail) → 0 < length body
AreBodies-first [] tail body are = are.0
AreBodies-first (first ∷ log) tail body are = AreBodies-first log tail body are.1

-- where a log goes on, its next record stands behind the open gate
record_follows : (log tail : List (List ℕ)) (body behind more : List ℕ) → AreBodies (log ++ body ∷ tail) → length (records (log ++ body ∷ tail)) < most_bytes →
    0 < length (records tail ++ more)
    → open_gate ∷ behind ≡ records (body ∷ tail) ++ more → BeginsWithRecord (length (records log)) behind body
record_follows log tail body behind more are within some same =
    let parted : open_gate ∷ behind ≡ open_gate ∷ (framed body ++ (records tail ++ more)) = same ∙ first_record body tail more in
    let split : behind ≡ framed body ++ (records tail ++ more) = cc in
    by_rest (records tail ++ more) split some
  where
    long : length (records (log ++ body ∷ tail)) ≡ length (records log) + length (records (body ∷ tail))
    long = ap length (records-append log (body ∷ tail)) ∙ length-append (records log) (records (body ∷ tail))

    by_rest : (rest : List ℕ) → behind ≡ framed body ++ rest → 0 < length rest → BeginsWithRecord (length (records log)) behind body
    by_rest [] split none = absurd (omega arith)
    by_rest (gate ∷ rest) split more_than = record {
      gate = gate;
      rest = rest;
      whole = split;
      some = AreBodies-first log tail body are;
      within = omega (arith, within, long, length-first body tail);
    }

-- what stands for a log has its last gate
rest_some : (bytes : List ℕ) (log : List (List ℕ)) (stands : Stands bytes log) → 0 < length bytes → 0 < length stands.rest
rest_some bytes log stands some = elim stands.ends [
  | inl none ↦ absurd (omega (arith, ap length none))
  | inr last ↦ by_cases stands.rest last
]
  where
    by_cases : (rest : List ℕ) → BeginsWithLastGate rest → 0 < length rest
    by_cases [] last = absurd last
    by_cases (gate ∷ rest) last = omega arith

-- a log that ends here does not go on
ends_here : (bytes : List ℕ) (log other : List (List ℕ)) (more : List ℕ) (stands : Stands bytes log) → bytes ≡ records other ++ more →
    GoesOn log stands.rest other more → ⊥
unfolding GoesOn
ends_here bytes log other more stands whole on = elim stands.ends [
  | inl none ↦ omega (
    arith,
    ap length none,
    ap length stands.whole,
    length-append (records log) stands.rest,
    ap length on.3,
    length-append
        (records (on.0 ∷ on.1)) more,
    length-first on.0 on.1,
  )
  | inr last ↦ not_last on.0 on.1 more (subst BeginsWithLastGate on.3 last)
]

one_log : (bytes : List ℕ) (log other : List (List ℕ)) → Stands bytes log → Stands bytes other → log ≡ other
one_log bytes log other stands also = elim (compare log other stands.rest also.rest stands.within also.within (sym stands.whole ∙ also.whole)) [
  | inl is ↦ is.0
  | inr (inl on) ↦ absurd (ends_here bytes log other also.rest stands also.whole on)
  | inr (inr on) ↦ absurd (ends_here bytes other log stands.rest also stands.whole on)
]

open_is_not_last : (behind : List ℕ) → behind ≢ [] → BeginsWithLastGate (open_gate ∷ behind) → ⊥
open_is_not_last [] some last = some refl
open_is_not_last (x ∷ behind) some last = last refl

damaged_small : (bytes : List ℕ) (place : ℕ) (damage : DamagedAt bytes place) → length (records damage.log) < most_bytes
damaged_small bytes place damage = omega (arith, damage.within, damage.here)

-- where there is damage no log goes on
damage_ends : (bytes : List ℕ) (place : ℕ) (damage : DamagedAt bytes place) (other : List (List ℕ)) (more : List ℕ) → AreBodies other →
    length (records other) < most_bytes → 0 < length more → GoesOn damage.log (open_gate ∷ damage.behind) other more → ⊥
unfolding GoesOn
damage_ends bytes place damage other more are within some on =
    let body = on.0 in
    let tail = on.1 in
    let found = record_follows damage.log tail body damage.behind more (subst AreBodies on.2 are)
    (subst (λ (l : List (List ℕ)). length (records l) < most_bytes) on.2 within) (omega (arith, some, length-append (records tail) more)) on.3 in
    damage.no_record body (subst (λ (p : ℕ). BeginsWithRecord p damage.behind body) (sym damage.here) found)

not_both : (bytes : List ℕ) (log : List (List ℕ)) (place : ℕ) → Stands bytes log → DamagedAt bytes place → ⊥
not_both bytes log place stands damage = elim (compare log damage.log stands.rest (open_gate ∷ damage.behind) stands.within (damaged_small bytes place damage)
    (sym stands.whole ∙ damage.whole)) [
      | inl is ↦ elim stands.ends [
        | inl none ↦ omega (arith, ap length none, ap length damage.whole, length-append (records damage.log) (open_gate ∷ damage.behind))
        | inr last ↦ open_is_not_last damage.behind damage.not_last (subst BeginsWithLastGate is.1 last)
      ]
      | inr (inl on) ↦ ends_here bytes log damage.log (open_gate ∷ damage.behind) stands damage.whole on
      | inr (inr on) ↦ damage_ends bytes place damage log stands.rest stands.bodies stands.within
          (rest_some bytes log stands (omega (arith, ap length damage.whole, length-append (records damage.log) (open_gate ∷ damage.behind)))) on
    ]

one_place : (bytes : List ℕ) (place other : ℕ) → DamagedAt bytes place → DamagedAt bytes other → place ≡ other
one_place bytes place other damage also = elim (compare damage.log also.log (open_gate ∷ damage.behind) (open_gate ∷ also.behind)
    (damaged_small bytes place damage) (damaged_small bytes other also) (sym damage.whole ∙ also.whole)) [
      | inl is ↦ damage.here ∙ ap (λ (l : List (List ℕ)). length (records l)) is.0 ∙ sym also.here
      | inr (inl on) ↦ absurd (damage_ends bytes place damage also.log (open_gate ∷ also.behind) also.bodies (damaged_small bytes other also) (omega arith) on)
      | inr (inr on) ↦ absurd (damage_ends bytes other also damage.log (open_gate ∷ damage.behind) damage.bodies (damaged_small bytes place damage)
          (omega arith) on)
    ]

pub has_one_answer : (bytes : List ℕ) → HasOneAnswer bytes
has_one_answer bytes = record { one_log = one_log bytes; not_both = not_both bytes; one_place = one_place bytes }
