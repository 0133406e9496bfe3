-- What a crash leaves in each of the two steps of an append.
use Rattle.std.proofs.Common.{◌≡◌, ◌≢◌, inl, inr, ℕ, ◌+◌, ◌<◌, ◌≤◌, List, [], ◌∷◌, ◌++◌, length, take, drop, get_or, refl, sym, ◌∙◌, ap, subst, arith}
use Rattle.std.proofs.Common.{length-append, append_assoc, take-append-drop}
use Rattle.std.proofs.lemmas.Bool.{cases_eq}
use Rattle.std.proofs.lemmas.List.{take_at, drop_at, drop_more}
use Rattle.ale_volumes.specs.Disk.{Disk}
use Rattle.ale_volumes.specs.declared.volume.Volume.{Volume}
use Rattle.ale_volumes.specs.Volume.{settled, overwritten, Torn}
use Rattle.byte_journal.specs.declared.journal.Journal.{Journal}
use Rattle.byte_journal.specs.Log.{open_gate, most_bytes, framed, records, AreBodies, BeginsWithLastGate, Stands}
use Rattle.byte_journal.specs.Settled.{IsClosed, IsSettled, IsBeforeOrAfter}
use Rattle.byte_journal.proofs.LogLemmas.{records-push, length-records-push, AreBodies-push}

-- a closed gate ends the log, whatever lies behind it
last_gate : (gate : ℕ) (behind : List ℕ) → gate ≢ open_gate → BeginsWithLastGate (gate ∷ behind)
last_gate gate [] closed = tt
last_gate gate (next ∷ rest) closed = closed

-- Bytes whose last gate is closed stand for their log.
pub closed_stands : (bytes : List ℕ) (log : List (List ℕ)) → IsClosed bytes log → Stands bytes log
closed_stands bytes log is = record {
  rest = is.gate ∷ is.behind;
  whole = is.whole;
  bodies = is.bodies;
  ends = inr (last_gate is.gate is.behind is.closed);
  within = is.within;
}

-- a whole record and a closed gate stand behind the closed gate of the log
pub record IsStaged (bytes : List ℕ) (log : List (List ℕ)) (body : List ℕ) : Type 0 where
  pub gate : ℕ
  pub behind : List ℕ
  pub whole : bytes ≡ records log ++ gate ∷ (framed body ++ 0 ∷ behind)
  pub closed : gate ≢ open_gate
  pub bodies : AreBodies log
  pub within : length (records log) < most_bytes

-- A record behind a closed gate is no part of the log.
pub staged_closed : (bytes : List ℕ) (log : List (List ℕ)) (body : List ℕ) → IsStaged bytes log body → IsClosed bytes log
staged_closed bytes log body is = record {
  gate = is.gate;
  behind = framed body ++ 0
      ∷ is.behind;
  whole = is.whole;
  closed = is.closed;
  bodies = is.bodies;
  within = is.within;
}

-- the bytes up to the gate, and with it
front : (log : List (List ℕ)) (gate : ℕ) (behind : List ℕ) → take (length (records log)) (records log ++ gate ∷ behind) ≡ records log
front log gate behind = take_at (records log) (gate ∷ behind) (length (records log)) refl

back : (log : List (List ℕ)) (gate : ℕ) (behind : List ℕ) → drop (length (records log) + 1) (records log ++ gate ∷ behind) ≡ behind
back log gate behind =
    ap (λ (l : List ℕ). drop (length (records log) + 1) l) (sym (append_assoc (records log) (gate ∷ []) behind))
    ∙ drop_at (records log ++ gate ∷ []) behind (length (records log) + 1) (omega (arith, length-append (records log) (gate ∷ [])))

with_gate : (log : List (List ℕ)) (gate : ℕ) (behind : List ℕ) → take (length (records log) + 1) (records log ++ gate ∷ behind) ≡ records log ++ gate ∷ []
with_gate log gate behind =
    ap (λ (l : List ℕ). take (length (records log) + 1) l) (sym (append_assoc (records log) (gate ∷ []) behind))
    ∙ take_at (records log ++ gate ∷ []) behind (length (records log) + 1) (omega (arith, length-append (records log) (gate ∷ [])))

-- The last gate lies within the bytes.
pub long_enough : (bytes : List ℕ) (log : List (List ℕ)) → IsClosed bytes log → length (records log) + 1 ≤ length bytes
long_enough bytes log is = omega (arith, ap length is.whole, length-append (records log) (is.gate ∷ is.behind))

-- the closed gate stands in whatever the first write leaves
pub torn_block : (bytes image : List ℕ) (log : List (List ℕ)) (n : ℕ) → IsClosed bytes log → Torn (length (records log) + 1) n bytes image → IsClosed image log
torn_block bytes image log n is torn =
    let start = length (records log) + 1 in
    let kept : take start image ≡ records log ++ is.gate ∷ [] = torn.before ∙ ap (λ (l : List ℕ). take start l) is.whole ∙ with_gate log is.gate is.behind in
    record {
      gate = is.gate;
      behind = drop start image;
      whole = sym (take-append-drop start image) ∙ ap (λ (l : List ℕ). l ++ drop start image) kept
          ∙ append_assoc (records log) (is.gate ∷ []) (drop start image);
      closed = is.closed;
      bodies = is.bodies;
      within = is.within;
    }

-- The first write of an append leaves the record behind the closed gate.
pub block_written : (bytes : List ℕ) (log : List (List ℕ)) (body : List ℕ) → IsClosed bytes log →
    IsStaged (overwritten bytes (length (records log) + 1) (framed body ++ 0 ∷ [])) log body
block_written bytes log body is =
    let start = length (records log) + 1 in
    let block = framed body ++ 0 ∷ [] in
    let rest = drop (start + length block) bytes in
    let kept : take start bytes ≡ records log ++ is.gate ∷ [] = ap (λ (l : List ℕ). take start l) is.whole ∙ with_gate log is.gate is.behind in
    record {
      gate = is.gate;
      behind = rest;
      whole = ap (λ (l : List ℕ). l ++ block ++ rest) kept
          ∙ append_assoc (records log ++ is.gate ∷ []) block rest
          ∙ append_assoc (records log) (is.gate ∷ []) (block ++ rest)
          ∙ ap (λ (l : List ℕ). records log ++ is.gate ∷ l) (append_assoc (framed body) (0 ∷ []) rest);
      closed = is.closed;
      bodies = is.bodies;
      within = is.within;
    }

module _ (log : List (List ℕ)) (body : List ℕ) (some : 0 < length body) (fits : length (records log) + 5 + length body < most_bytes) where
  -- with an open gate before it the record is in the log
  opened : (bytes : List ℕ) (behind : List ℕ) → AreBodies log → bytes ≡ records log ++ open_gate ∷ (framed body ++ 0 ∷ behind) →
      IsClosed bytes (log ++ body ∷ [])
  opened bytes behind bodies whole = record {
    gate = 0;
    behind = behind;
    whole = whole
        ∙ sym (append_assoc (records log) (open_gate ∷ framed body) (0 ∷ behind))
        ∙ ap (λ (l : List ℕ). l ++ 0 ∷ behind) (sym (records-push log body));
    closed = λ is. absurd (omega (arith, is));
    bodies = AreBodies-push log body bodies some;
    within = omega (arith, length-records-push log body, fits);
  }

  -- the record stands whole in whatever the second write leaves
  pub torn_gate : (bytes image : List ℕ) → IsStaged bytes log body → Torn (length (records log)) 1 bytes image → IsBeforeOrAfter log body image
  torn_gate bytes image is torn =
      let place = length (records log) in
      let long = long_enough bytes log (staged_closed bytes log body is) in
      let gate = get_or image place 0 in
      let kept : take place image ≡ records log = torn.before ∙ ap (λ (l : List ℕ). take place l) is.whole ∙ front log is.gate (framed body ++ 0 ∷ is.behind) in
      let rest : drop (place + 1) image ≡ framed body ++ 0 ∷ is.behind = torn.behind ∙ ap (λ (l : List ℕ). drop (place + 1) l) is.whole
      ∙ back log is.gate (framed body ++ 0 ∷ is.behind) in
      let whole : image ≡ records log ++ gate ∷ (framed body ++ 0 ∷ is.behind) =
      sym (take-append-drop place image)
      ∙ ap (λ (l : List ℕ). l ++ drop place image) kept
      ∙ ap (λ (l : List ℕ). records log ++ l) (drop_more image place 0 (omega (arith, long, torn.size)))
      ∙ ap (λ (l : List ℕ). records log ++ gate ∷ l) rest in
      elim (cases_eq gate open_gate) [
        | inl same ↦ inr (closed_stands image (log ++ body ∷ [])
            (opened image is.behind is.bodies (subst (λ (g : ℕ). image ≡ records log ++ g ∷ (framed body ++ 0 ∷ is.behind)) same whole)))
        | inr other ↦ inl (closed_stands image log
            (record { gate = gate; behind = framed body ++ 0 ∷ is.behind; whole = whole; closed = other; bodies = is.bodies; within = is.within }))
      ]

  -- The second write puts the record into the log.
  pub gate_opened : (bytes : List ℕ) → IsStaged bytes log body → IsClosed (overwritten bytes (length (records log)) (open_gate ∷ [])) (log ++ body ∷ [])
  gate_opened bytes is =
      let place = length (records log) in
      let rest : drop (place + 1) bytes ≡ framed body ++ 0 ∷ is.behind = ap (λ (l : List ℕ). drop (place + 1) l) is.whole
      ∙ back log is.gate (framed body ++ 0 ∷ is.behind) in
      let kept : take place bytes ≡ records log = ap (λ (l : List ℕ). take place l) is.whole ∙ front log is.gate (framed body ++ 0 ∷ is.behind) in
      opened _ is.behind is.bodies
      (ap (λ (l : List ℕ). l ++ (open_gate ∷ []) ++ drop (place + 1) bytes) kept
      ∙ ap (λ (l : List ℕ). records log ++ (open_gate ∷ []) ++ l) rest
      ∙ append_assoc (records log) (open_gate ∷ []) (framed body ++ 0 ∷ is.behind))

-- The same of a journal that stands at the end of the log, in the words of the two writes.
module _ {D : Type 0} (disk : Disk D) (old mid new : D) (journal : Journal) (log : List (List ℕ)) (body block : List ℕ)
    (s : IsSettled disk old journal log) (is_block : block ≡ framed body ++ 0 ∷ []) where
  abbrev held : D → List ℕ
  held vols = (disk.volume vols journal.volume).contents

  first_torn : (image : List ℕ) → Torn (journal.gate + 1) (length block) (held old) image → IsClosed image log
  first_torn image torn = torn_block (held old) image log (length block) s.closed (subst (λ (p : ℕ). Torn (p + 1) (length block) (held old) image) s.place torn)

  -- The first write of a journal leaves its log.
  pub first_before : (image : List ℕ) → Torn (journal.gate + 1) (length block) (held old) image → IsBeforeOrAfter log body image
  first_before image torn = inl (closed_stands image log (first_torn image torn))

  module _ (wrote : disk.volume mid journal.volume ≡ settled (overwritten (held old) (journal.gate + 1) block)) where
    contents_mid : held mid ≡ overwritten (held old) (length (records log) + 1) (framed body ++ 0 ∷ [])
    contents_mid =
        ap (λ (v : Volume). v.contents) wrote
        ∙ ap (λ (p : ℕ). overwritten (held old) (p + 1) block) s.place
        ∙ ap (λ (b : List ℕ). overwritten (held old) (length (records log) + 1) b) is_block

    staged : IsStaged (held mid) log body
    staged = subst (λ (b : List ℕ). IsStaged b log body) (sym contents_mid) (block_written (held old) log body s.closed)

    durable_mid : disk.volume mid journal.volume ≡ settled (held mid)
    durable_mid = wrote ∙ ap settled (ap (λ (v : Volume). v.contents) (sym wrote))

    -- the journal is as before, with more behind its last gate
    pub still_settled : disk.volume new journal.volume ≡ disk.volume mid journal.volume → IsSettled disk new journal log
    still_settled same =
        let kept : IsClosed (held new) log = subst (λ (v : Volume). IsClosed v.contents log) (sym same) (staged_closed (held mid) log body staged) in
        record {
          closed = kept;
          place = s.place;
          durable = same ∙ durable_mid ∙ ap settled (ap (λ (v : Volume). v.contents) (sym same));
        }

    module _ (some : 0 < length body) (fits : journal.gate + 5 + length body < most_bytes) where
      fits_log : length (records log) + 5 + length body < most_bytes
      fits_log = omega (arith, fits, s.place)

      pub second_torn : (image : List ℕ) → Torn journal.gate 1 (held mid) image → IsBeforeOrAfter log body image
      second_torn image torn =
          torn_gate log body some fits_log (held mid) image staged (subst (λ (p : ℕ). Torn p 1 (held mid) image) s.place torn)

      pub mid_durable : disk.volume mid journal.volume ≡ settled (held mid)
      mid_durable = durable_mid

      -- and the next one has the body
      pub added : (after : Journal) → after.volume ≡ journal.volume → after.gate ≡ journal.gate + 5 + length body
          → disk.volume new journal.volume ≡ settled (overwritten (held mid) journal.gate (open_gate ∷ [])) → IsSettled disk new after (log ++ body ∷ [])
      added after same_volume next opens =
          let is : held new ≡ overwritten (held mid) (length (records log)) (open_gate ∷ []) =
          ap (λ (v : Volume). v.contents) opens ∙ ap (λ (p : ℕ). overwritten (held mid) p (open_gate ∷ [])) s.place in
          let closed : IsClosed (held new) (log ++ body ∷ []) =
          subst (λ (b : List ℕ). IsClosed b (log ++ body ∷ [])) (sym is) (gate_opened log body some fits_log (held mid) staged) in
          let durable : disk.volume new journal.volume ≡ settled (held new) = opens ∙ ap settled (ap (λ (v : Volume). v.contents) (sym opens)) in
          record {
            closed = subst (λ (n : ℕ). IsClosed (disk.volume new n).contents (log ++ body ∷ [])) (sym same_volume) closed;
            place = omega (arith, next, s.place, length-records-push log body);
            durable = subst (λ (n : ℕ). disk.volume new n ≡ settled (disk.volume new n).contents) (sym same_volume) durable;
          }
