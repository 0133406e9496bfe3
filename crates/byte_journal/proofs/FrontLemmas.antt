-- Only the front of a volume's bytes can matter: they read as it does.
use Rattle.std.proofs.Common.{◌≡◌, ◌≢◌, ◌⊎◌, inl, inr, ◌↔◌, ℕ, ◌+◌, ◌-◌, ◌<◌, ◌≤◌, min, List, [], ◌∷◌, ◌++◌, length, take, drop, get_or, refl, sym, ◌∙◌, ap}
use Rattle.std.proofs.Common.{subst, arith, length-append, append_assoc, take-append-drop}
use Rattle.std.proofs.lemmas.Bool.{cases_lt}
use Rattle.std.specs.Prelude.{replicate}
use Rattle.std.proofs.lemmas.List.{take_all, take_at, take_min, drop-take, nil_from_length, length-take, length-drop, get_or-take}
use Rattle.std.proofs.Math.Seq.{take-append-add}
use Rattle.byte_journal.specs.Log.{open_gate, most_bytes, framed, records, front_of, BeginsWithLastGate, BeginsWithRecord, Stands, DamagedAt}
use Rattle.byte_journal.specs.steps.Reading.{ReadsTo}
use Rattle.byte_journal.proofs.LogLemmas.{length-framed}

-- what stands in a front of so many bytes, of which the most bytes of a log are fewer
module _ (bytes : List ℕ) (k : ℕ) (enough : most_bytes < k) where
  whole : bytes ≡ take k bytes ++ drop k bytes
  whole = sym (take-append-drop k bytes)

  -- a front that is shorter is all
  all_of : length (take k bytes) < k → drop k bytes ≡ []
  all_of short = nil_from_length (drop k bytes) (omega (arith, length-drop k bytes, length-take k bytes, short))

  last_gate : (rest : List ℕ) → (length rest ≤ 1 → drop k bytes ≡ []) → BeginsWithLastGate rest → BeginsWithLastGate (rest ++ drop k bytes)
  last_gate [] none last = absurd last
  last_gate (gate ∷ []) none last = subst (λ (l : List ℕ). BeginsWithLastGate (gate ∷ l)) (sym (none (omega arith))) tt
  last_gate (gate ∷ next ∷ rest) none last = last

  -- a front stands for the log that all stands for
  stands_whole : (log : List (List ℕ)) → Stands (take k bytes) log → Stands bytes log
  stands_whole log stands =
      let size : length (take k bytes) ≡ length (records log) + length stands.rest = ap length stands.whole ∙ length-append (records log) stands.rest in
      let none : length stands.rest ≤ 1 → drop k bytes ≡ [] = λ few. all_of (omega (arith, few, size, stands.within, enough)) in
      record {
        rest = stands.rest ++ drop k bytes;
        whole = whole ∙ ap (λ (l : List ℕ). l ++ drop k bytes) stands.whole ∙ append_assoc (records log) stands.rest (drop k bytes);
        bodies = stands.bodies;
        ends = elim stands.ends [
          | inl empty ↦
              let short : length (take k bytes) < k = omega (arith, ap length empty, enough) in
              inl (whole ∙ ap (λ (l : List ℕ). l ++ drop k bytes) empty ∙ all_of short)
          | inr last ↦ inr (last_gate stands.rest none last)
        ];
        within = stands.within;
      }

  -- no record lies behind the gate in all that does not lie there in the front
  record_front : (place : ℕ) (front behind body : List ℕ) → take k bytes ≡ front ++ open_gate ∷ behind → place ≡ length front →
      BeginsWithRecord place (behind ++ drop k bytes) body → BeginsWithRecord place behind body
  record_front place front behind body is here found =
      let size : length (take k bytes) ≡ length front + (1 + length behind) = omega (arith, ap length is, length-append front (open_gate ∷ behind)) in
      let long : length (behind ++ drop k bytes) ≡ length (framed body) + (1 + length found.rest) = omega
      (arith, ap length found.whole, length-append (framed body) (found.gate ∷ found.rest)) in
      let framed_long = length-framed body in
      let back : (4 + length body < length behind) ⊎ (drop k bytes ≡ []) = elim (cases_short (length (take k bytes))) [
        | inl short ↦ inr (all_of short)
        | inr full ↦ inl (omega (arith, full, size, here, found.within, enough))
      ] in
      let fits : 4 + length body < length behind = elim back [
        | inl more ↦ more
        | inr none ↦ omega (arith, long, framed_long, length-append behind (drop k bytes), ap length none)
      ] in
      let m = length behind - (5 + length body) in
      let parts : length behind ≡ length (framed body ++ found.gate ∷ []) + m = omega
      (arith, fits, length-append (framed body) (found.gate ∷ []), framed_long) in
      record {
        gate = found.gate;
        rest = take m found.rest;
        whole = sym (take_at behind (drop k bytes) (length behind) refl)
            ∙ ap (λ (l : List ℕ). take (length behind) l) (found.whole ∙ sym (append_assoc (framed body) (found.gate ∷ []) found.rest))
            ∙ take_over (framed body ++ found.gate ∷ []) found.rest m (length behind) parts
            ∙ append_assoc (framed body) (found.gate ∷ []) (take m found.rest);
        some = found.some;
        within = found.within;
      }
    where
      cases_short : (n : ℕ) → (n < k) ⊎ (k ≤ n)
      cases_short n = cases_lt n k

      take_over : (xs ys : List ℕ) (m n : ℕ) → n ≡ length xs + m → take n (xs ++ ys) ≡ xs ++ take m ys
      take_over xs ys m n is = ap (λ (i : ℕ). take i (xs ++ ys)) is ∙ take-append-add xs ys m

  -- the front is damaged where all is damaged
  damaged_whole : (place : ℕ) → DamagedAt (take k bytes) place → DamagedAt bytes place
  damaged_whole place damage = record {
    log = damage.log;
    behind = damage.behind ++ drop k bytes;
    whole = whole ∙ ap (λ (l : List ℕ). l ++ drop k bytes) damage.whole ∙ append_assoc (records damage.log) (open_gate ∷ damage.behind) (drop k bytes);
    bodies = damage.bodies;
    here = damage.here;
    within = damage.within;
    not_last = λ none. damage.not_last (nil_from_length damage.behind (omega (arith, ap length none, length-append damage.behind (drop k bytes))));
    no_record = λ body found. damage.no_record body (record_front place (records damage.log) damage.behind body damage.whole damage.here found);
  }

  -- a gate that may be of a log lies in the front as in all
  gate_front : (gate : ℕ) → gate < most_bytes →
      ((gate < length bytes) × (get_or bytes gate 0 ≢ open_gate)) ↔ ((gate < length (take k bytes)) × (get_or (take k bytes) gate 0 ≢ open_gate))
  gate_front gate low =
      let same : get_or (take k bytes) gate 0 ≡ get_or bytes gate 0 = get_or-take k bytes gate 0 (omega arith) in (
        λ here. (omega (arith, here.0, length-take k bytes), λ is. here.1 (sym same ∙ is)),
        λ here. (omega (arith, here.0, length-take k bytes), λ is. here.1 (same ∙ is)),
      )

-- So it is of the bytes that decide the log.
pub Stands-front : (bytes : List ℕ) (log : List (List ℕ)) → Stands (front_of bytes) log → Stands bytes log
unfolding front_of
Stands-front bytes log stands = stands_whole bytes (most_bytes + 1) (omega arith) log stands

pub DamagedAt-front : (bytes : List ℕ) (place : ℕ) → DamagedAt (front_of bytes) place → DamagedAt bytes place
unfolding front_of
DamagedAt-front bytes place damage = damaged_whole bytes (most_bytes + 1) (omega arith) place damage

-- What reading the front gives, reading all gives.
pub ReadsTo-front : (bytes : List ℕ) (log : List (List ℕ)) (gate : ℕ) → ReadsTo (front_of bytes) log gate → ReadsTo bytes log gate
ReadsTo-front bytes log gate reads = record { stands = Stands-front bytes log reads.stands; place = reads.place }

-- The gate of a log is closed in all bytes where it is closed in those that decide.
pub closed-front : (bytes front : List ℕ) (gate : ℕ) → gate < most_bytes → front ≡ front_of bytes →
    ((gate < length bytes) × (get_or bytes gate 0 ≢ open_gate)) ↔ ((gate < length front) × (get_or front gate 0 ≢ open_gate))
unfolding front_of
closed-front bytes front gate low is =
    subst (λ (f : List ℕ). ((gate < length bytes) × (get_or bytes gate 0 ≢ open_gate)) ↔ ((gate < length f) × (get_or f gate 0 ≢ open_gate))) (sym is)
    (gate_front bytes (most_bytes + 1) (omega arith) gate low)

pub gate-low : (bytes : List ℕ) (log : List (List ℕ)) (gate : ℕ) → ReadsTo bytes log gate → gate < most_bytes
gate-low bytes log gate reads = omega (arith, reads.stands.within, reads.place)

-- reading as many bytes as there are, and no more than these, gives the front
pub front-read : (bytes : List ℕ) (n : ℕ) → n ≡ min (length bytes) (most_bytes + 1) → take n bytes ≡ front_of bytes
unfolding front_of
front-read bytes n is =
    ap (λ (m : ℕ). take m bytes) (is ∙ swapped (length bytes) (most_bytes + 1)) ∙ take_min (most_bytes + 1) bytes
  where
    swapped : (a b : ℕ) → min a b ≡ min b a
    swapped a b = omega arith

-- the front has as many bytes as there are, up to the most that decide a log
pub front-length : (bytes : List ℕ) (n : ℕ) → n ≡ min (length bytes) (most_bytes + 1) → length (front_of bytes) ≡ n
unfolding front_of
front-length bytes n is = omega (arith, length-take (most_bytes + 1) bytes, is)

-- bytes of the front that are as many as there are, are the front
pub front-all : (bytes so_far : List ℕ) → so_far ≡ take (length so_far) (front_of bytes) → min (length bytes) (most_bytes + 1) ≤ length so_far →
    so_far ≡ front_of bytes
unfolding front_of
front-all bytes so_far is enough = is ∙ take_all (length so_far) (take (most_bytes + 1) bytes) (omega (arith, length-take (most_bytes + 1) bytes, enough))

-- all of the front is a part of it
pub front-again : (bytes all : List ℕ) → all ≡ front_of bytes → all ≡ take (length all) (front_of bytes)
front-again bytes all is = is ∙ sym (ap (λ (l : List ℕ). take (length all) l) (sym is) ∙ take_all (length all) all (omega arith) ∙ is)

-- a part of the front and what is read behind it, as far as there is more, are the front
pub front-behind : (bytes so_far : List ℕ) (n : ℕ) → n ≡ min (length bytes) (most_bytes + 1) → length so_far ≤ n →
    so_far ≡ take (length so_far) (front_of bytes) → so_far ++ take (n - length so_far) (drop (length so_far) bytes) ≡ front_of bytes
front-behind bytes so_far n is long has =
    let k = length so_far in
    let m = n - k in
    let sum : n ≡ k + m = omega (arith, long) in
    let read : take (k + m) bytes ≡ front_of bytes = ap (λ (i : ℕ). take i bytes) (sym sum) ∙ front-read bytes n is in
    ap (λ (l : List ℕ). l ++ take m (drop k bytes)) (has ∙ ap (λ (l : List ℕ). take k l) (sym read))
    ∙ ap (λ (l : List ℕ). take k (take (k + m) bytes) ++ l) (sym (drop-take k m bytes))
    ∙ take-append-drop k (take (k + m) bytes)
    ∙ read

-- The same of a list of bytes that was made as long as the front, and filled from behind that part on.
pub front-filled : (bytes old items part into behind : List ℕ) (n : ℕ) → n ≡ min (length bytes) (most_bytes + 1) → length old ≤ n →
    items ≡ take n old ++ replicate (n - length old) 0 → part ≡ take (length old) items
    → into ≡ take (n - length old) (drop (length old) bytes) → old ≡ take (length old) (front_of bytes)
    → take n ((part ++ into) ++ behind) ≡ front_of bytes
front-filled bytes old items part into behind n is long filled is_part read has =
    let same : part ≡ old =
    is_part ∙ ap (λ (l : List ℕ). take (length old) l) (filled ∙ ap (λ (l : List ℕ). l ++ replicate (n - length old) 0) (take_all n old long))
    ∙ take_at old (replicate (n - length old) 0) (length old) refl in
    let whole : part ++ into ≡ front_of bytes =
    ap (λ (l : List ℕ). l ++ into) same ∙ ap (λ (l : List ℕ). old ++ l) read ∙ front-behind bytes old n is long has in
    take_at (part ++ into) behind n (ap length whole ∙ front-length bytes n is) ∙ whole
