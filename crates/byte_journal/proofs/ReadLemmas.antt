-- Reading the records of a journal from its front on.
use Rattle.std.specs.Int.{w32, to_be_bytes, from_be_bytes}
use Rattle.std.proofs.Common.{◌≡◌, inl, inr, ℕ, ◌+◌, ◌<◌, ◌≤◌, List, [], ◌∷◌, ◌++◌, length, take, drop, get_or, refl, sym, ◌∙◌, ap, subst, arith, length-append}
use Rattle.std.proofs.Common.{append_assoc, take-append-drop}
use Rattle.std.proofs.lemmas.Bool.{cases_eq, cases_lt}
use Rattle.std.proofs.lemmas.List.{drop_at, drop_more, nil_from_length, get_or_past, get_or-take, length-take, length-drop}
use Rattle.std.proofs.lemmas.Nat.{be_bytes_4}
use Rattle.byte_journal.specs.Log.{open_gate, most_bytes, framed, records, AreBodies, BeginsWithLastGate, BeginsWithRecord, DamagedAt}
use Rattle.byte_journal.specs.steps.Reading.{ReadsTo}
use Rattle.byte_journal.proofs.LogLemmas.{records-push, length-records-push, AreBodies-push}

-- four bytes of a length, so many bytes, and one more are a record and a gate
pub record_found : (place : ℕ) (behind : List ℕ) (n : ℕ) (head rest body : List ℕ) → ((i : ℕ) → get_or behind i 0 < 256) → 4 ≤ length behind →
    head ≡ take 4 behind → rest ≡ drop 4 behind
    → n ≡ from_be_bytes w32 head → 0 < n → n < length rest → place + 5 + n < most_bytes → body ≡ take n rest → BeginsWithRecord place behind body
record_found place behind n head rest body bytes long is_head is_rest is_n some more within is_body =
    let size : length body ≡ n = ap length is_body ∙ omega (arith, length-take n rest) in
    let four : length (take 4 behind) ≡ 4 = omega (arith, length-take 4 behind) in
    let small : (i : ℕ) → get_or (take 4 behind) i 0 < 256 = λ i. elim (cases_lt i 4) [
      | inl low ↦ subst (λ (x : ℕ). x < 256) (sym (get_or-take 4 behind i 0 low)) (bytes i)
      | inr high ↦ subst (λ (x : ℕ). x < 256) (sym (get_or_past (take 4 behind) i 0 (omega (arith, four)))) (omega arith)
    ] in
    let spelled : to_be_bytes w32 n ≡ take 4 behind = be_bytes_4 (take 4 behind) n four small (is_n ∙ ap (from_be_bytes w32) is_head) in
    let gate = get_or rest n 0 in
    record {
      gate = gate;
      rest = drop (n + 1) rest;
      whole = sym (take-append-drop 4 behind)
          ∙ ap (λ (l : List ℕ). l ++ drop 4 behind) (sym spelled)
          ∙ ap (λ (l : List ℕ). to_be_bytes w32 n ++ l) (sym is_rest ∙ sym (take-append-drop n rest)
          ∙ ap (λ (l : List ℕ). take n rest ++ l) (drop_more rest n 0 more))
          ∙ ap (λ (l : List ℕ). to_be_bytes w32 n ++ (l ++ gate ∷ drop (n + 1) rest)) (sym is_body)
          ∙ sym (append_assoc (to_be_bytes w32 n) body (gate ∷ drop (n + 1) rest))
          ∙ ap (λ (m : ℕ). (to_be_bytes w32 m ++ body) ++ gate ∷ drop (n + 1) rest) (sym size);
      some = omega (arith, size, some);
      within = omega (arith, size, within);
    }

-- so far the bytes are the records of this log, and then there is this gate
pub record IsReadTo (bytes : List ℕ) (log : List (List ℕ)) (gate : ℕ) : Type 0 where
  pub whole : bytes ≡ records log ++ drop gate bytes
  pub place : gate ≡ length (records log)
  pub bodies : AreBodies log
  pub within : gate < most_bytes
  pub inside : 0 < length bytes → gate < length bytes

pub read-none : (bytes : List ℕ) → IsReadTo bytes [] 0
read-none bytes = record { whole = refl; place = refl; bodies = tt; within = omega arith; inside = λ some. some }

module _ (bytes : List ℕ) (log : List (List ℕ)) (gate : ℕ) (so_far : IsReadTo bytes log gate) where
  module _ (more : gate + 1 < length bytes) (is_open : get_or bytes gate 0 ≡ open_gate) where
    open_here : bytes ≡ records log ++ open_gate ∷ drop (gate + 1) bytes
    open_here = so_far.whole ∙ ap (λ (l : List ℕ). records log ++ l) (drop_more bytes gate 0 (omega arith) ∙ ap (λ (x : ℕ). x ∷ drop (gate + 1) bytes) is_open)

    pub read-damaged : ((body : List ℕ) → BeginsWithRecord gate (drop (gate + 1) bytes) body → ⊥) → DamagedAt bytes gate
    read-damaged none = record {
      log = log;
      behind = drop (gate + 1) bytes;
      whole = open_here;
      bodies = so_far.bodies;
      here = so_far.place;
      within = so_far.within;
      not_last = λ empty. absurd (omega (arith, ap length empty, length-drop (gate + 1) bytes));
      no_record = none;
    }

    pub read-more : (body : List ℕ) → BeginsWithRecord gate (drop (gate + 1) bytes) body → IsReadTo bytes (log ++ body ∷ []) (gate + (5 + length body))
    read-more body found =
        let next = gate + (5 + length body) in
        let split : bytes ≡ records (log ++ body ∷ []) ++ found.gate ∷ found.rest =
        open_here
        ∙ ap (λ (l : List ℕ). records log ++ open_gate ∷ l) found.whole
        ∙ sym (append_assoc (records log) (open_gate ∷ framed body) (found.gate ∷ found.rest))
        ∙ ap (λ (l : List ℕ). l ++ found.gate ∷ found.rest) (sym (records-push log body)) in
        let place : next ≡ length (records (log ++ body ∷ [])) = omega (arith, so_far.place, length-records-push log body) in
        let rest : drop next bytes ≡ found.gate ∷ found.rest = ap (λ (l : List ℕ). drop next l) split
        ∙ drop_at (records (log ++ body ∷ [])) (found.gate ∷ found.rest) next (sym place) in
        record {
          whole = split ∙ ap (λ (l : List ℕ). records (log ++ body ∷ []) ++ l) (sym rest);
          place = place;
          bodies = AreBodies-push log body so_far.bodies found.some;
          within = omega (arith, found.within);
          inside = λ some. omega (arith, place, ap length split, length-append (records (log ++ body ∷ [])) (found.gate ∷ found.rest));
        }

  last_here : (rest : List ℕ) → drop gate bytes ≡ rest → 0 < length bytes → ((gate + 1 < length bytes) × (get_or bytes gate 0 ≡ open_gate) → ⊥) →
      BeginsWithLastGate rest
  last_here [] is some ends = absurd (omega (arith, so_far.inside some, ap length is, length-drop gate bytes))
  last_here (x ∷ []) is some ends = tt
  last_here (x ∷ next ∷ rest) is some ends = λ opens.
      let low : gate < length bytes = so_far.inside some in
      let first : x ∷ (next ∷ rest) ≡ get_or bytes gate 0 ∷ drop (gate + 1) bytes = sym is ∙ drop_more bytes gate 0 low in
      let same : get_or bytes gate 0 ≡ x = cc in
      ends (omega (arith, ap length is, length-drop gate bytes), same ∙ opens)

  pub read-ended : ((gate + 1 < length bytes) × (get_or bytes gate 0 ≡ open_gate) → ⊥) → ReadsTo bytes log gate
  read-ended ends = record {
    stands = record {
      rest = drop gate bytes;
      whole = so_far.whole;
      bodies = so_far.bodies;
      ends = elim (cases_eq (length bytes) 0) [
        | inl none ↦ inl (nil_from_length bytes none)
        | inr some ↦ inr (last_here (drop gate bytes) refl (omega arith) ends)
      ];
      within = omega (arith, so_far.within, so_far.place);
    };
    place = so_far.place;
  }
