-- Closing the last gate of a journal.
use Rattle.std.proofs.Common.{◌≡◌, ◌≢◌, ◌⊎◌, inl, inr, ℕ, ◌+◌, ◌<◌, ◌≤◌, max, List, [], ◌∷◌, ◌++◌, length, take, drop, get_or, sym, ◌∙◌, ap, arith}
use Rattle.std.proofs.Common.{length-append, append_assoc, take-append-drop}
use Rattle.std.proofs.lemmas.Bool.{cases_eq}
use Rattle.std.proofs.lemmas.List.{take_at, get_or_at, drop_more, append-nil, nil_from_length, length-drop}
use Rattle.ale_volumes.specs.Volume.{overwritten, Torn}
use Rattle.byte_journal.specs.Log.{open_gate, records, BeginsWithLastGate, Stands}
use Rattle.byte_journal.specs.Settled.{IsClosed}
use Rattle.byte_journal.specs.Bytes.{IsAsBeforeButForTheGate, IsAsBeforeButForATornGate}
use Rattle.byte_journal.specs.steps.Reading.{ReadsTo}

-- bytes that stand for a log have its last gate, if there are any
some_rest : (rest : List ℕ) → BeginsWithLastGate rest → 0 < length rest
some_rest [] last = absurd last
some_rest (gate ∷ rest) last = omega arith

module _ (bytes : List ℕ) (log : List (List ℕ)) (gate : ℕ) (reads : ReadsTo bytes log gate) where
  size : length bytes ≡ length (records log) + length reads.stands.rest
  size = ap length reads.stands.whole ∙ length-append (records log) reads.stands.rest

  -- The place of the last gate is no further than the end.
  pub gate_within : gate ≤ length bytes
  gate_within = omega (arith, size, reads.place)

  has_gate : 0 < length bytes → gate < length bytes
  has_gate some = elim reads.stands.ends [
    | inl none ↦ absurd (omega (arith, ap length none))
    | inr last ↦ omega (arith, some_rest reads.stands.rest last, size, reads.place)
  ]

  -- a closed gate stands there
  closed_by : (rest : List ℕ) → bytes ≡ records log ++ rest → gate < length bytes → get_or bytes gate 0 ≢ open_gate → IsClosed bytes log
  closed_by [] whole within closed = absurd (omega (arith, ap length whole, length-append {A = ℕ} (records log) [], reads.place))
  closed_by (first ∷ behind) whole within closed =
      let here : get_or bytes gate 0 ≡ first = ap (λ (b : List ℕ). get_or b gate 0) whole ∙ get_or_at (records log) first behind 0 gate (sym reads.place) in
      record {
        gate = first;
        behind = behind;
        whole = whole;
        closed = λ is. closed (here ∙ is);
        bodies = reads.stands.bodies;
        within = reads.stands.within;
      }

  -- A closed gate at the place of the last one ends the log.
  pub is_closed : gate < length bytes → get_or bytes gate 0 ≢ open_gate → IsClosed bytes log
  is_closed = closed_by reads.stands.rest reads.stands.whole

  module _ (not_closed : (gate < length bytes) × (get_or bytes gate 0 ≢ open_gate) → ⊥) where
    -- the last gate is the last byte
    short_by : (rest : List ℕ) → bytes ≡ records log ++ rest → BeginsWithLastGate rest → length bytes ≡ gate + 1
    short_by [] whole last = absurd last
    short_by (first ∷ []) whole last = omega (arith, ap length whole, length-append (records log) (first ∷ []), reads.place)
    short_by (first ∷ next ∷ rest) whole last =
        let here : get_or bytes gate 0 ≡ first = ap (λ (b : List ℕ). get_or b gate 0) whole
        ∙ get_or_at (records log) first (next ∷ rest) 0 gate (sym reads.place) in
        absurd (not_closed (omega (arith, ap length whole, length-append (records log) (first ∷ next ∷ rest), reads.place), λ is. last (sym here ∙ is)))

    short : (length bytes ≡ 0) ⊎ (length bytes ≡ gate + 1)
    short = elim reads.stands.ends [
      | inl none ↦ inl (ap length none)
      | inr last ↦ inr (short_by reads.stands.rest reads.stands.whole last)
    ]

    front : take gate bytes ≡ records log
    front = ap (λ (l : List ℕ). take gate l) reads.stands.whole ∙ take_at (records log) reads.stands.rest gate (sym reads.place)

    -- Where the gate is written, it is closed.
    pub gate_closed : IsClosed (overwritten bytes gate (0 ∷ [])) log
    gate_closed =
        let rest = drop (gate + 1) bytes in
        record {
          gate = 0;
          behind = rest;
          whole = ap (λ (l : List ℕ). l ++ (0 ∷ []) ++ rest) front ∙ append_assoc (records log) (0 ∷ []) rest;
          closed = λ is. absurd (omega (arith, is));
          bodies = reads.stands.bodies;
          within = reads.stands.within;
        }

    -- bytes that end at the gate are the records and this one byte
    with_byte : (new : List ℕ) → length new ≡ gate + 1 → take gate new ≡ records log → new ≡ records log ++ get_or new gate 0 ∷ []
    with_byte new long same =
        let none : drop (gate + 1) new ≡ [] = nil_from_length (drop (gate + 1) new) (omega (arith, length-drop (gate + 1) new)) in
        sym (take-append-drop gate new)
        ∙ ap (λ (l : List ℕ). l ++ drop gate new) same
        ∙ ap (λ (l : List ℕ). records log ++ l) (drop_more new gate 0 (omega arith) ∙ ap (λ (l : List ℕ). get_or new gate 0 ∷ l) none)

    -- there are no bytes, or the last gate is open and the last byte
    lacks : (bytes ≡ []) ⊎ (bytes ≡ records log ++ open_gate ∷ [])
    lacks = elim short [
      | inl none ↦ inl (nil_from_length bytes none)
      | inr long ↦ elim (cases_eq (get_or bytes gate 0) open_gate) [
        | inl opens ↦ inr (with_byte bytes long front ∙ ap (λ (b : ℕ). records log ++ b ∷ []) opens)
        | inr closed ↦ absurd (not_closed (omega arith, closed))
      ]
    ]

    -- the gate is closed, and all else is as before
    pub closed_left : IsAsBeforeButForTheGate bytes (overwritten bytes gate (0 ∷ []))
    closed_left =
        let none : drop (gate + 1) bytes ≡ [] = nil_from_length (drop (gate + 1) bytes) (omega (arith, length-drop (gate + 1) bytes, short)) in
        inr (record {
          log = log;
          stands = reads.stands;
          lacks = lacks;
          now = ap (λ (l : List ℕ). l ++ (0 ∷ []) ++ drop (gate + 1) bytes) front ∙ ap (λ (l : List ℕ). records log ++ (0 ∷ []) ++ l) none
              ∙ append-nil (records log ++ (0 ∷ []));
        })

    -- a torn write of the gate leaves all but this byte
    pub torn_left : (new : List ℕ) → Torn gate 1 bytes new → IsAsBeforeButForATornGate bytes new
    torn_left new torn =
        let sizes : (length new ≡ length bytes) ⊎ (length new ≡ max (length bytes) (gate + 1)) = torn.size in
        elim (cases_eq (length new) (gate + 1)) [
          | inl long ↦ inr (get_or new gate 0, record { log = log; stands = reads.stands; lacks = lacks; now = with_byte new long (torn.before ∙ front) })
          | inr other ↦
              let none : length new ≡ 0 = omega (arith, sizes, short, other) in
              inl (nil_from_length new none ∙ sym (nil_from_length bytes (omega (arith, none, sizes, short))))
        ]

    last_of : (rest : List ℕ) → length rest ≤ 1 → 0 < length rest → BeginsWithLastGate rest
    last_of [] few some = absurd (omega arith)
    last_of (gate ∷ []) few some = tt
    last_of (gate ∷ next ∷ rest) few some = absurd (omega arith)

    -- and a crash before that is durable leaves the same log
    pub torn_close : (image : List ℕ) → Torn gate 1 bytes image → Stands image log
    torn_close image torn =
        let sizes : (length image ≡ length bytes) ⊎ (length image ≡ max (length bytes) (gate + 1)) = torn.size in
        let rest = drop gate image in
        record {
          rest = rest;
          whole = sym (take-append-drop gate image) ∙ ap (λ (l : List ℕ). l ++ rest) (torn.before ∙ front);
          bodies = reads.stands.bodies;
          ends = elim (cases_eq (length image) 0) [
            | inl none ↦ inl (nil_from_length image none)
            | inr some ↦ inr (last_of rest (omega (arith, length-drop gate image, sizes, short))
                (omega (arith, length-drop gate image, sizes, short, some, has_gate, gate_within)))
          ];
          within = reads.stands.within;
        }
