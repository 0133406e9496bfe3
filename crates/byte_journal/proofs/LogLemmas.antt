-- Lemmas on logs and their bytes.
use Rattle.std.specs.Int.{w32, to_be_bytes}
use Rattle.std.proofs.Common.{◌≡◌, ℕ, ◌+◌, ◌<◌, List, [], ◌∷◌, ◌++◌, length, refl, sym, ◌∙◌, ap, arith, length-append, append_assoc}
use Rattle.std.proofs.lemmas.List.{append-nil}
use Rattle.byte_journal.specs.Log.{open_gate, framed, records, AreBodies}

-- A framed body has four bytes more.
pub length-framed : (body : List ℕ) → length (framed body) ≡ 4 + length body
length-framed body = omega (arith, length-append (to_be_bytes w32 (length body)) body)

-- one body more at the front of a log, and at its end
pub records-append : (log more : List (List ℕ)) → records (log ++ more) ≡ records log ++ records more
records-append [] more = refl
records-append (body ∷ log) more = ap (λ (l : List ℕ). (open_gate ∷ framed body) ++ l) (records-append log more)
    ∙ sym (append_assoc (open_gate ∷ framed body) (records log) (records more))

pub records-push : (log : List (List ℕ)) (body : List ℕ) → records (log ++ body ∷ []) ≡ records log ++ open_gate ∷ framed body
records-push log body = records-append log (body ∷ []) ∙ ap (λ (l : List ℕ). records log ++ l) (append-nil (open_gate ∷ framed body))

-- A record has five bytes more than its body.
pub length-records-push : (log : List (List ℕ)) (body : List ℕ) → length (records (log ++ body ∷ [])) ≡ length (records log) + 5 + length body
length-records-push log body =
    ap length (records-push log body) ∙ omega (arith, length-append (records log) (open_gate ∷ framed body), length-framed body)

-- One body more is a body.
pub AreBodies-push : (log : List (List ℕ)) (body : List ℕ) → AreBodies log → 0 < length body → AreBodies (log ++ body ∷ [])
AreBodies-push [] body are some = (some, tt)
AreBodies-push (first ∷ log) body are some = (are.0, AreBodies-push log body are.1 some)
